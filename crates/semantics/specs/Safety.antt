-- Document 01, "The fence rule", which is demand 3: spatial safety, one statement about a whole run.
-- It speaks of the run that the definition of a call names, and of the log that the rules keep (specs/Rules.antt).
use Rattle.std.specs.Prelude.{ℕ, ◌+◌, ◌≤◌, ◌<◌, ◌≡◌, length}
use mathlib.Core.List.{List, ◌∷◌, ◌++◌, Memᴰ}
use Rattle.semantics.specs.Words.{Words, word}
use Rattle.semantics.specs.Table.{variables, count}
use Rattle.semantics.specs.Check.{passes, call_fault}
use Rattle.semantics.specs.Rules.{Datum, Access, named, followed, Event, loaded, stored, allocated}
use Rattle.semantics.specs.Run.{stuck, Run, run}

-- The words [s, t) of a variable, or of a block that is obtained earlier: "earlier" are the events of the log given. A register is "a block
-- obtained before the first command": a begun run's first log has it.
pub data Region (vars : ℕ) (log : List Event) : ℕ → ℕ → Type 0 where
  variable : (i : ℕ) → i < vars → Region vars log (1 + i) (1 + i + 1)
  block : (s n : ℕ) → Memᴰ (allocated s n) log → Region vars log s (s + n)

-- "Bounds [b, e) lie in the words [s, t) of a variable or block when s ≤ b < e ≤ t."
pub record Held (vars : ℕ) (log : List Event) (b e : ℕ) : Type 0 where
  pub s : ℕ
  pub t : ℕ
  pub region : Region vars log s t
  pub from : s ≤ b
  pub proper : b < e
  pub upto : e ≤ t

-- A word that is read or written "is a named variable or lies within the bounds of the pointer followed, and those lie in
-- one variable or one block obtained earlier". "Word w lies within [b, e) when b ≤ w and w + 1 ≤ e."
pub data Permitted (vars : ℕ) (log : List Event) (w : ℕ) : Access → Type 0 where
  by_name : {i : ℕ} → i < vars → w ≡ 1 + i → Permitted vars log w (named i)
  by_pointer : {p : Datum} → p.base ≤ w → w + 1 ≤ p.end → Held vars log p.base p.end → Permitted vars log w (followed p)

-- Every word read or written: wherever the log, newest first, is `later ++ event ∷ earlier`, the event is permitted by `earlier`.
pub record Allowed (vars : ℕ) (log : List Event) : Type 0 where
  pub reads : (later earlier : List Event) (w : ℕ) (a : Access) → log ≡ later ++ loaded w a ∷ earlier → Permitted vars earlier w a
  pub writes : (later earlier : List Event) (w : ℕ) (a : Access) → log ≡ later ++ stored w a ∷ earlier → Permitted vars earlier w a

-- "every word's bounds are absent or so held"
pub data Sound (vars : ℕ) (log : List Event) (b e : ℕ) : Type 0 where
  absent : b ≡ 0 → e ≡ 0 → Sound vars log b e
  held : Held vars log b e → Sound vars log b e

-- Demand 3 of a run of a table with this many variables in memory of this length.
pub record Safe (vars len : ℕ) (r : Run) : Type 0 where
  -- "no step is without a rule"
  pub has_rules : (c : ℕ) → r.ending ≡ stuck c → ⊥
  -- "every word read or written .."
  pub accesses : Allowed vars r.state.log
  -- "after each ending every word's bounds are absent or so held"; the lists are as long as they were lent
  pub bounds : (w : ℕ) → w < len → Sound vars r.state.log (word r.state.bases w) (word r.state.ends w)
  pub lengths : (length r.state.values ≡ len) × (length r.state.bases ≡ len) × (length r.state.ends ≡ len)

-- "Whatever passes the check and whatever a run of it is begun with": "A run is begun when its call isn't refused."
abbrev pub SpatiallySafe : Words → Words → Words → Words → Words → Words → Type 0
SpatiallySafe t inputs registers values bases ends =
    call_fault t inputs registers (length values) (length bases) (length ends) ≡ passes
    → Safe (count t variables) (length values) (run t inputs registers (length values))
