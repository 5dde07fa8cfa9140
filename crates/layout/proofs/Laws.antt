-- Laws of verdicts, of loops over them and of the entries of a section.
use Prim.Native.Nat.{ℕ, zero, suc, ◌+◌, ◌*◌, ◌<◌}
use Rattle.std.specs.Prelude.{Result, Err, ⊤}
use Rattle.std.specs.Result.{IsErrAnd}
use Rattle.std.proofs.lemmas.Result.{err_from_is_err_and}
use mathlib.Core.Bool.{Bool, true, false}
use mathlib.Core.Path.{◌≡◌, refl, sym, ap, ◌∙◌}
use native.Mathlib.Omega.{arith}
use native.Mathlib.Nat.{not-suc-le-zero}
use native.Mathlib.Numerals.{add-one}
use native.Mathlib.Decide.{ℕ_discrete}
use Rattle.semantics.specs.Words.{Words, word, sum_below}
use Rattle.semantics.specs.Table.{entry_words, item_place, item}
use Rattle.semantics.specs.Check.{Verdict, passes, refused, ◌or_else◌, require, each}
use Rattle.layout.specs.Layout.{Stands}
use Rattle.layout.specs.Refusals as answer
use Rattle.layout.specs.Refusals.{number_of, Outcome, outcome_of, verdict_of}
use Rattle.layout.specs.Types.{Checked}
use Rattle.layout.specs.declared.Refusal.{Refusal}
use Rattle.layout.specs.declared.Section.{Section}

pub require_holds : (b : Bool) (n p : ℕ) → b ≡ true → require b n p ≡ passes
unfolding require
require_holds b n p e = rw e refl

pub require_refuses : (b : Bool) (n p : ℕ) → b ≡ false → require b n p ≡ refused n p
unfolding require
require_refuses b n p e = rw e refl

pub or_else_pass : (u v : Verdict) → u ≡ passes → u or_else v ≡ v
unfolding ◌or_else◌
or_else_pass u v e = rw e refl

pub or_else_refuse : (u v : Verdict) {n p : ℕ} → u ≡ refused n p → u or_else v ≡ refused n p
unfolding ◌or_else◌
or_else_refuse u v e = rw e refl

pub or_else_assoc : (u v w : Verdict) → (u or_else v) or_else w ≡ u or_else (v or_else w)
unfolding ◌or_else◌
or_else_assoc passes v w = refl
or_else_assoc (refused n p) v w = refl

-- What a `?` hands on is the refusal that it was given.
pub handed_on : {A : Type 0} (r : Result A Refusal) (e : Refusal) → IsErrAnd r (λ d. d ≡ e) → r ≡ Err e
handed_on r e h = let p = err_from_is_err_and r h in p.1 ∙ ap Err p.2

pub outcome_on : {A : Type 0} (r : Result A Refusal) (e : Refusal) {o : Outcome A} → IsErrAnd r (λ d. d ≡ e) → answer.refused (number_of e.fault) e.place ≡ o → outcome_of r ≡ o
outcome_on r e h q = ap outcome_of (handed_on r e h) ∙ q

pub verdict_on : (r : Result ⊤ Refusal) (e : Refusal) {v : Verdict} → IsErrAnd r (λ d. d ≡ e) → refused (number_of e.fault) e.place ≡ v → verdict_of r ≡ v
verdict_on r e h q = ap verdict_of (handed_on r e h) ∙ q

module _ (f : ℕ → Verdict) (i : ℕ) (before : each i f ≡ passes) where
  -- A turn that passes.
  pub each_more : f i ≡ passes → each (i + 1) f ≡ passes
  unfolding each
  each_more e = rw (add-one i) (or_else_pass (each i f) (f i) before ∙ e)

  -- The first refusal is the refusal of the whole.
  pub each_refuses : (n : ℕ) {a p : ℕ} → i < n → f i ≡ refused a p → refused a p ≡ each n f
  unfolding each
  each_refuses zero h r = absurd (not-suc-le-zero h)
  each_refuses (suc n) {a} {p} h r = go (ℕ_discrete i n) (λ (less : i < n). each_refuses n less r)
    where
      go : Dec (i ≡ n) → (i < n → refused a p ≡ each n f) → refused a p ≡ each n f or_else f n
      go (yes q) below = sym (or_else_pass (each n f) (f n) (rw q at before) ∙ rw q at r)
      go (no q) below = sym (or_else_refuse (each n f) (f n) (sym (below (omega arith))))

pub each_all : (f : ℕ → Verdict) (i n : ℕ) → i ≡ n → each i f ≡ passes → passes ≡ each n f
each_all f i n e h = sym (rw e at h)

-- A refusal promises nothing of the lists.
pub refusal : {v : Verdict} {P : Type 0} {r : Refusal} → refused (number_of r.fault) r.place ≡ v → Checked (Err r) v P
refusal e = record { verdict = e; found = λ q. absurd (let z : ◌≡◌ {A = ℕ} 0 1 = cc in omega arith) }

-- And so where a `?` hands it on.
pub refusal_on : {v : Verdict} {P : Type 0} (r : Result ⊤ Refusal) (e : Refusal) → IsErrAnd r (λ d. d ≡ e) → refused (number_of e.fault) e.place ≡ v → Checked r v P
refusal_on {v} {P} r e h q = rw (handed_on r e h) (refusal {v = v} {P = P} {r = e} q)

pub sum_more : (f : ℕ → ℕ) (i : ℕ) → sum_below (i + 1) f ≡ sum_below i f + f i
unfolding sum_below
sum_more f i = rw (add-one i) refl

-- Word j of entry i of a section that stands at l.
module _ {t : Words} {s : ℕ} {l : Section} (h : Stands t s l) (i j p : ℕ) (e : p ≡ l.at + word entry_words s * i + j) where
  pub place_at : item_place t s i j ≡ p
  unfolding item_place
  place_at = omega (arith, h.first)

  pub item_at : item t s i j ≡ word t p
  unfolding item
  item_at = rw place_at refl

  pub entry_word : {x : ℕ} → x ≡ word t p → x ≡ item t s i j
  entry_word q = q ∙ sym item_at
