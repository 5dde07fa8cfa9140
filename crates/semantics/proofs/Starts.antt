-- The block of a log that has a word: where it is found to start, and that a register is one.
use Prim.Native.Nat.{ℕ, zero, suc, ◌+◌, ◌≤◌, ◌<◌}
use mathlib.Core.Path.{◌≡◌, refl, sym, ◌∙◌}
use mathlib.Core.Logic.{◌⊎◌, inl, inr, ⊎_elim}
use mathlib.Core.List.Memᴰ
use mathlib.Core.List.{List, ◌∷◌, Memᴰ}
use native.Mathlib.Omega.{arith}
use native.Mathlib.Decide.{ℕ_discrete}
use borrow.Author.Tests.{le-leb, lt-leb, lt-ltb, le-ltb}
use lib.Dec.{leb, ltb}
use Rattle.semantics.specs.Words.{Words}
use Rattle.semantics.specs.Registers.{register_variable, register_length, register_words}
use Rattle.semantics.specs.Rules.{Event, loaded, stored, allocated, tested, State, each_noted}
use Rattle.semantics.specs.Run.{with_register, registers_below}
use Rattle.semantics.specs.Explain.{block_start}
use Rattle.semantics.proofs.Tests.{and_both}
use Rattle.semantics.proofs.Blocks.{NoBlock, Stacked, none, beside, alloc, stacked_low, stacked_inside}
use Rattle.semantics.proofs.Invariant.{Within}

-- An event that is no block is passed over.
pub start_beside : (e : Event) (log : List Event) (w : ℕ) → NoBlock e → block_start (e ∷ log) w ≡ block_start log w
unfolding block_start
start_beside (loaded at a) log w apart = refl
start_beside (stored at a) log w apart = refl
start_beside (allocated s n) log w apart = absurd (apart s n refl)
start_beside (tested x) log w apart = refl

pub start_each : (e : ℕ → Event) (k : ℕ) (log : List Event) (w : ℕ) → ((i : ℕ) → NoBlock (e i)) → block_start (each_noted k e log) w ≡ block_start log w
unfolding each_noted
start_each e zero log w apart = refl
start_each e (suc k) log w apart = start_beside (e k) (each_noted k e log) w (apart k) ∙ start_each e k log w apart

pub start_newest : (s n : ℕ) (log : List Event) (w : ℕ) → s ≤ w → w < s + n → block_start (allocated s n ∷ log) w ≡ s
unfolding block_start
start_newest s n log w from upto = rw (and_both (leb s w) (ltb w (s + n)) (le-leb s w from) (lt-ltb w (s + n) upto))

pub start_older : (s n : ℕ) (log : List Event) (w : ℕ) → (w < s) ⊎ (s + n ≤ w) → block_start (allocated s n ∷ log) w ≡ block_start log w
unfolding block_start
start_older s n log w (inl h) = rw (lt-leb s w h)
start_older s n log w (inr h) = rw (le-leb s w (omega arith), le-ltb w (s + n) h)

-- The block of a log that has word w starts where it is looked for.
pub block_start_of : {vars u : ℕ} {log : List Event} → Stacked vars log u → (a n w : ℕ) → Memᴰ (allocated a n) log → a ≤ w → w < a + n
    → block_start log w ≡ a
block_start_of none a n w h from upto = absurd (Memᴰ.not-nil h)
block_start_of (beside {e = e} {log = log} apart st) a n w h from upto =
    start_beside e log w apart ∙ ⊎_elim (λ q. absurd (apart a n (sym q))) (λ m. block_start_of st a n w m from upto) (Memᴰ.cases_cons h)
block_start_of (alloc {n = k} {log = log} {u = u} some st) a n w h from upto =
    ⊎_elim newest (λ m. older (stacked_inside st a n m).2 (block_start_of st a n w m from upto)) (Memᴰ.cases_cons h)
  where
    newest : allocated a n ≡ allocated u k → block_start (allocated u k ∷ log) w ≡ a
    newest q =
        let p : u ≡ a = cc in
        let r : k ≡ n = cc in
        rw (p, r) (start_newest a n log w from upto)

    older : a + n ≤ u → block_start log w ≡ a → block_start (allocated u k ∷ log) w ≡ a
    older below e = start_older u k log w (inl (omega arith)) ∙ e

-- A word of a variable, and one that is unused, is in no block.
pub block_start_none : {vars u : ℕ} {log : List Event} → Stacked vars log u → (w : ℕ) → (w ≤ vars) ⊎ (u ≤ w) → block_start log w ≡ 0
unfolding block_start
block_start_none none w h = refl
block_start_none (beside {e = e} {log = log} apart st) w h = start_beside e log w apart ∙ block_start_none st w h
block_start_none (alloc {n = k} {log = log} {u = u} some st) w (inl h) =
    start_older u k log w (inl (omega (arith, stacked_low st))) ∙ block_start_none st w (inl h)
block_start_none (alloc {n = k} {log = log} {u = u} some st) w (inr h) =
    start_older u k log w (inr h) ∙ block_start_none st w (inr (omega arith))

-- ---- registers

-- A register of at least one word is a block of the log, at the first word that those before it leave unused.
register_logged : (l : Words) (n : ℕ) (s : State) (i : ℕ) → i < n → 0 < register_length l i
    → Memᴰ (allocated (registers_below l i s).unused (register_length l i)) (registers_below l n s).log
unfolding registers_below
register_logged l zero s i less some = absurd (omega arith)
register_logged l (suc n) s i less some =
    go (register_variable l n) (register_words l n) (λ h. register_logged l n s i h some) (ℕ_discrete i n)
  where
    newest : (v k : ℕ) (ws : Words) (r : State) → 0 < k → Memᴰ (allocated r.unused k) (with_register v k ws r).log
    newest v zero ws r more = absurd (omega arith)
    newest v (suc k) ws r more = Memᴰ.head refl

    older : (v k : ℕ) (ws : Words) (r : State) {e : Event} → Memᴰ e r.log → Memᴰ e (with_register v k ws r).log
    older v zero ws r h = h
    older v (suc k) ws r h = Memᴰ.tail h

    go : (v : ℕ) (ws : Words) → (i < n → Memᴰ (allocated (registers_below l i s).unused (register_length l i)) (registers_below l n s).log) → Dec (i ≡ n)
        → Memᴰ (allocated (registers_below l i s).unused (register_length l i)) (with_register v (register_length l n) ws (registers_below l n s)).log
    go v ws before (yes e) = rw (← e) (newest v (register_length l i) ws (registers_below l i s) some)
    go v ws before (no other) = older v (register_length l n) ws (registers_below l n s) (before (omega arith))

-- In every later log of blocks that are stacked, it is where its words are found to start.
pub registers_start : {vars u : ℕ} {log : List Event} (l : Words) (n : ℕ) (s : State) → Stacked vars log u → Within (registers_below l n s).log log
    → (i w : ℕ) → i < n → (registers_below l i s).unused ≤ w → w < (registers_below l i s).unused + register_length l i
    → block_start log w ≡ (registers_below l i s).unused
registers_start l n s st more i w less from upto =
    block_start_of st (registers_below l i s).unused (register_length l i) w (more _ (register_logged l n s i less (omega arith))) from upto
