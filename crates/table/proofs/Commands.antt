-- Laws of the loops over commands and over uses.
use Prim.Native.Nat.{ℕ, zero, suc, ◌+◌, ◌*◌, ◌≤◌, ◌<◌}
use mathlib.Core.Bool.{Bool}
use mathlib.Core.Path.{◌≡◌, refl, sym, ◌∙◌, ap}
use mathlib.Core.List.{[], ◌∷◌}
use native.Mathlib.Omega.{arith}
use borrow.Author.Tests.{eq-eqb}
use lib.Dec.{eqb}
use Rattle.semantics.specs.Words.{Words, word, sum_below}
use Rattle.semantics.specs.Table.{count, place, value, node_type}
use Rattle.semantics.specs.Check.{Verdict, passes, ◌or_else◌, require, each, is_child, command_place, command_value, command_fault, occurrences, uses, use_fault}
use Rattle.semantics.proofs.Passed.{or_else_passes, require_passes}
use Rattle.semantics.proofs.Trees.{is_child_true}
use Rattle.layout.specs.Layout.{Stands}
use Rattle.layout.specs.declared.Section.{Section}
use Rattle.layout.proofs.Laws.{require_holds, or_else_pass, sum_more, place_at, item_at}
use Rattle.nodes.specs.Promises.{Counted}
use Rattle.table.specs.Promises.{command_verdict, CommandsCounted, AllCounted}
use Rattle.table.proofs.Uses.{uses_few}

-- ---- one command

pub command_by : (t : Words) (n p x v : ℕ) {left right same : Bool} → n ≡ count t 4 → left ≡ is_child t place n x → right ≡ is_child t value n v → same ≡ eqb (node_type t x) (node_type t v)
    → require left 7 p or_else require right 7 (p + 1) or_else require same 8 p ≡ command_verdict t p x v
unfolding command_verdict
command_by t n p x v e a b s = rw (a, b, s, e)

pub command_children : (t : Words) (p x v : ℕ) → command_verdict t p x v ≡ passes → (x < count t 4) × (v < count t 4)
unfolding command_verdict
command_children t p x v e =
    let p₀ = or_else_passes (require (is_child t place (count t 4) x) 7 p) _ e in
    let p₁ = or_else_passes (require (is_child t value (count t 4) v) 7 (p + 1)) _ p₀.1 in (
      (is_child_true t place (count t 4) x (require_passes (is_child t place (count t 4) x) 7 p p₀.0)).0,
      (is_child_true t value (count t 4) v (require_passes (is_child t value (count t 4) v) 7 (p + 1) p₁.0)).0,
    )

-- ---- the commands so far

module _ {t : Words} {l : Section} (h : Stands t 5 l) (c : ℕ) where
  pub place_word : {x : ℕ} → x ≡ word t (l.at + 2 * c + 0) → x ≡ command_place t c
  place_word e = e ∙ sym (item_at h c 0 (l.at + 2 * c + 0) (omega arith))

  pub value_word : {v : ℕ} → v ≡ word t (l.at + 2 * c + 1) → v ≡ command_value t c
  value_word e = e ∙ sym (item_at h c 1 (l.at + 2 * c + 1) (omega arith))

  pub by_words : {x v : ℕ} → x ≡ word t (l.at + 2 * c + 0) → v ≡ word t (l.at + 2 * c + 1) → command_verdict t (l.at + 2 * c) x v ≡ command_fault t c
  unfolding command_verdict command_fault
  by_words e f = rw (place_word e, value_word f, place_at h c 0 (l.at + 2 * c) (omega arith), place_at h c 1 (l.at + 2 * c + 1) (omega arith))

pub counted_none : (t used : Words) → CommandsCounted t used used 0
unfolding sum_below
counted_none t used = record { all = refl; more = λ i. omega arith }

pub counted_more : {t used used₁ used₂ used₃ : Words} {c x v : ℕ} → CommandsCounted t used used₁ c → Counted used₁ used₂ (x ∷ []) → Counted used₂ used₃ (v ∷ []) → x ≡ command_place t c → v ≡ command_value t c
    → CommandsCounted t used used₃ (c + 1)
counted_more {t} {c = c} {x} {v} before first second ex ev =
    record {
      all = second.all ∙ first.all ∙ before.all;
      more = λ i.
          omega (arith, before.more i, first.more i, second.more i, ap (λ (y : ℕ). occurrences i (y ∷ [])) ex, ap (λ (y : ℕ). occurrences i (y ∷ [])) ev, sum_more (λ (k : ℕ). occurrences i (command_place t k ∷ command_value t k ∷ [])) c);
    }

pub few_more : {t used used' : Words} {c : ℕ} → CommandsCounted t used used' c → (i : ℕ) → word used' i ≤ word used i + 2 * c
few_more {t} {c = c} h i = omega (arith, h.more i, uses_few c i (λ (k : ℕ). command_place t k ∷ command_value t k ∷ []) (λ m. omega arith))

-- ---- uses

all_pass : (f : ℕ → Verdict) (n : ℕ) → ((k : ℕ) → k < n → f k ≡ passes) → each n f ≡ passes
unfolding each
all_pass f zero h = refl
all_pass f (suc n) h = or_else_pass (each n f) (f n) (all_pass f n (λ k less. h k (omega arith))) ∙ h n (omega arith)

module _ {t used : Words} (all : AllCounted t used) where
  pub all_once : (n : ℕ) → ((k : ℕ) → k < n → word used k ≡ 1) → each n (use_fault t) ≡ passes
  unfolding use_fault
  all_once n h = all_pass (use_fault t) n (λ k less. require_holds (eqb (uses t k) 1) 9 _ (eq-eqb (uses t k) 1 (sym (all.all k) ∙ h k less)))

  pub use_by : {l : Section} → Stands t 4 l → (n : ℕ) {times : ℕ} → times ≡ word used n → require (eqb times 1) 9 (l.at + 3 * n) ≡ use_fault t n
  unfolding use_fault
  use_by {l} h n e = rw (place_at h n 0 (l.at + 3 * n) (omega arith), e, all.all n)
