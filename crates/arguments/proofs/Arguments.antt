-- Refusals 10 and 11.
use Prim.Native.Nat.{ℕ, ◌+◌}
use mathlib.Core.Bool.{Bool, ◌&&◌, ◌||◌}
use mathlib.Core.Path.{◌≡◌, sym}
use native.Mathlib.Omega.{arith}
use lib.Dec.{leb, ltb, eqb}
use lib.ListN.{length}
use Rattle.semantics.specs.Words.{Words, word}
use Rattle.semantics.specs.Table.{count}
use Rattle.semantics.specs.Check.{require, ◌or_else◌, each, lengths_fit, input_fits, input_fault, arguments_fault}
use Rattle.layout.specs.Layout.{Stands}
use Rattle.layout.proofs.Laws.{item_at}
use Rattle.layout.specs.declared.Section.{Section}

-- ---- an input

module _ (t inputs : Words) {l : Section} (h : Stands t 3 l) (i : ℕ) {p : ℕ} (e : p ≡ l.at + i) {f : Bool} (tested : f ≡ (eqb (word t p) 0 || eqb (word inputs i) 0)) where
  same_input : input_fits t inputs i ≡ f
  unfolding input_fits
  same_input = rw (item_at h i 0 p (omega arith)) (sym tested)

  -- What is required of an input is its part of the definition.
  pub input_by : require f 11 i ≡ input_fault t inputs i
  unfolding input_fault
  input_by = rw same_input

-- ---- the arguments of a call

module _ (t inputs : Words) (values bases ends : ℕ) {n : ℕ} (total : n ≡ count t 3) {f : Bool}
    (tested : f ≡ (eqb values bases && eqb values ends && ltb n values && leb values 65536)) where
  same_lengths : lengths_fit t values bases ends ≡ f
  unfolding lengths_fit
  same_lengths = rw (← total) (sym tested)

  -- What is required in turn is the definition.
  pub arguments_by : require f 10 0 or_else require (eqb (length inputs) n) 11 n or_else each (count t 3) (input_fault t inputs) ≡ arguments_fault t inputs values bases ends
  unfolding arguments_fault
  arguments_by = rw (same_lengths, total)
