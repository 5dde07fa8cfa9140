-- What a step answers, from what its function did to the memory.
use Prim.Native.Nat.{ℕ, zero, suc, ◌+◌, ◌-◌, ◌≤◌, ◌<◌}
use mathlib.Core.Bool.{Bool, true, false, ◌&&◌, false≢true}
use mathlib.Core.Path.{◌≡◌, refl, sym, ◌∙◌}
use mathlib.Core.Logic.{◌⊎◌, inl, inr}
use native.Mathlib.Omega.{arith}
use native.Mathlib.Decide.{ℕ_discrete}
use borrow.Author.Tests.{leb-true, ltb-true, lt-ltb, le-ltb, le-leb, lt-leb, ne_eqb}
use lib.Dec.{leb, ltb}
use lib.ListN.{length, set, replicate}
use lib.Seq.{sets}
use Rattle.semantics.specs.Words.{word, zeroed, moved, all_below}
use Rattle.semantics.specs.Bare.{State, Outcome, ok, no_word, bind, with_values, touchable, read_step, malloc_step, copy_step, assign_step}
use Rattle.semantics.proofs.Tests.{and_both, and_true, lt_or_le}
use Rattle.semantics.proofs.Lists.{all_true}
use Rattle.bare_steps.specs.Answers.{full, stuck, Answers, answers_ok, answers_full, answers_stuck, Finishes}

-- ---- a step from its child

-- Where the child's evaluation ended, that is passed on.
pub passed_on : (f : ℕ → State → Outcome ℕ) {s : State} {v : ℕ} → full ≤ v → Finishes f s v s v
passed_on f {s} {v} over = record { long = refl; meets = go }
  where
    go : {o : Outcome ℕ} → Answers s v o → Answers s v (bind o f)
    go (answers_ok x e small) = absurd (omega arith)
    go (answers_full e) = answers_full e
    go (answers_stuck e) = answers_stuck e

-- Else the step goes from its number.
pub goes_on : (f : ℕ → State → Outcome ℕ) (s : State) {s' : State} {v r : ℕ} → length s'.values ≡ length s.values → v < full → Answers s' r (f v s) → Finishes f s v s' r
goes_on f s {s'} {v} {r} long under step = record { long = long; meets = go }
  where
    go : {o : Outcome ℕ} → Answers s v o → Answers s' r (bind o f)
    go (answers_ok x e small) = rw e step
    go (answers_full e) = absurd (omega arith)
    go (answers_stuck e) = absurd (omega arith)

-- ---- words that can be read and assigned

right_false : (b : Bool) → b && false ≡ false
right_false true = refl
right_false false = refl

module _ (s : State) (w : ℕ) where
  inside : 0 < w → w < length s.values → touchable s w ≡ true
  unfolding touchable
  inside some less = and_both (ltb 0 w) (ltb w (length s.values)) (lt-ltb 0 w some) (lt-ltb w (length s.values) less)

  outside : (w ≡ 0) ⊎ (length s.values ≤ w) → touchable s w ≡ false
  unfolding touchable
  outside (inl e) = rw e
  outside (inr over) = rw (le-ltb w (length s.values) over) (right_false (ltb 0 w))

  pub word_read : {r : ℕ} → 0 < w → w < length s.values → r ≡ word s.values w → r < full → Answers s r (read_step w s)
  unfolding read_step
  word_read some less e small = rw (inside some less) (answers_ok (word s.values w) (sym e) small)

  pub read_stuck : (w ≡ 0) ⊎ (length s.values ≤ w) → Answers s stuck (read_step w s)
  unfolding read_step
  read_stuck out = rw (outside out) (answers_stuck refl)

  pub word_assigned : (v : ℕ) → 0 < w → w < length s.values → assign_step w v s ≡ ok tt (with_values (set s.values w v) s)
  unfolding assign_step
  word_assigned v some less = rw (inside some less)

  pub assign_stuck : (v : ℕ) → (w ≡ 0) ⊎ (length s.values ≤ w) → assign_step w v s ≡ no_word s
  unfolding assign_step
  assign_stuck v out = rw (outside out)

-- ---- an allocation of v words

module _ (s : State) (v : ℕ) where
  pub none_wanted : v ≡ 0 → Answers s 0 (malloc_step v s)
  unfolding malloc_step
  none_wanted e = rw e (answers_ok 0 refl (omega arith))

  pub too_many : (v ≡ 0 → ⊥) → length s.values < s.unused + v → Answers s full (malloc_step v s)
  unfolding malloc_step
  too_many some over = rw (ne_eqb v 0 some, lt-leb (s.unused + v) (length s.values) over) (answers_full refl)

  pub handed_out : {s' : State} {r : ℕ} → (v ≡ 0 → ⊥) → s.unused + v ≤ length s.values → s'.values ≡ sets s.values s.unused (replicate v 0) → s'.unused ≡ s.unused + v → r ≡ s.unused → r < full
      → Answers s' r (malloc_step v s)
  unfolding malloc_step zeroed
  handed_out some fits e eu er small = rw (ne_eqb v 0 some, le-leb (s.unused + v) (length s.values) fits, ← e, ← eu) (answers_ok s.unused (sym er) small)

-- ---- a copy of k words

-- They all stand in it.
pub has_room : (w k n : ℕ) → ltb 0 w && leb (w + k) n ≡ true → (0 < w) × (w + k ≤ n)
has_room w k n h = let p = and_true (ltb 0 w) (leb (w + k) n) h in (ltb-true 0 w p.0, leb-true (w + k) n p.1)

-- What fails of one number below k fails of all of them together.
all_false : (k : ℕ) (p : ℕ → Bool) (i : ℕ) → i < k → p i ≡ false → all_below k p ≡ false
unfolding all_below
all_false zero p i less fails = absurd (omega arith)
all_false (suc k) p i less fails = go (ℕ_discrete i k) (λ h. all_false k p i h fails)
  where
    go : Dec (i ≡ k) → (i < k → all_below k p ≡ false) → all_below k p && p k ≡ false
    go (yes e) before = rw (← e, fails) (right_false (all_below i p))
    go (no n) before = rw (before (omega arith))

-- Some of k words from w on can't be read or assigned.
record SomeOutside (s : State) (w k : ℕ) : Type 0 where
  i : ℕ
  less : i < k
  fails : touchable s (w + i) ≡ false

some_outside : (s : State) (w k : ℕ) → 1 ≤ k → ltb 0 w && leb (w + k) (length s.values) ≡ false → SomeOutside s w k
some_outside s w k some short = go (lt_or_le 0 w) (lt_or_le (length s.values) (w + k))
  where
    len : ℕ
    len = length s.values

    go : (0 < w) ⊎ (w ≤ 0) → (len < w + k) ⊎ (w + k ≤ len) → SomeOutside s w k
    go (inr none) upto = record { i = 0; less = some; fails = outside s (w + 0) (inl (omega arith)) }
    go (inl from) (inl over) = record { i = k - 1; less = omega arith; fails = outside s (w + (k - 1)) (inr (omega arith)) }
    go (inl from) (inr fits) = absurd (false≢true (sym short ∙ and_both (ltb 0 w) (leb (w + k) len) (lt-ltb 0 w from) (le-leb (w + k) len fits)))

module _ (s : State) (k a b : ℕ) where
  abbrev both : ℕ → Bool
  both i = touchable s (b + i) && touchable s (a + i)

  pub words_copied : {s' : State} {r : ℕ} → ltb 0 b && leb (b + k) (length s.values) ≡ true → ltb 0 a && leb (a + k) (length s.values) ≡ true
      → s'.values ≡ moved s.values a b k → s'.unused ≡ s.unused → r ≡ k → r < full → Answers s' r (copy_step k a b s)
  unfolding copy_step
  words_copied from to e eu er small =
      let f = has_room b k (length s.values) from in
      let t = has_room a k (length s.values) to in
      rw (all_true k both (λ i less. and_both _ _ (inside s (b + i) (omega (arith, f)) (omega (arith, f))) (inside s (a + i) (omega (arith, t)) (omega (arith, t)))), ← e, ← eu) (answers_ok k (sym er) small)

  copy_fails : (i : ℕ) → i < k → both i ≡ false → Answers s stuck (copy_step k a b s)
  unfolding copy_step
  copy_fails i less fails = rw (all_false k both i less fails) (answers_stuck refl)

  pub source_outside : 1 ≤ k → ltb 0 b && leb (b + k) (length s.values) ≡ false → Answers s stuck (copy_step k a b s)
  source_outside some short = let x = some_outside s b k some short in copy_fails x.i x.less (rw x.fails)

  pub target_outside : 1 ≤ k → ltb 0 a && leb (a + k) (length s.values) ≡ false → Answers s stuck (copy_step k a b s)
  target_outside some short = let x = some_outside s a k some short in copy_fails x.i x.less (rw x.fails (right_false (touchable s (b + x.i))))
