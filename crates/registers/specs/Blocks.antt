-- The memory that registers need and leave.
use Rattle.std.specs.Prelude.{ℕ, ◌+◌, ◌≤◌, ◌<◌, ◌≡◌, Option, None, Some, [], length, take, drop}
use Rattle.semantics.specs.Words.{Words, word}
use Rattle.semantics.specs.Table.{variables, count}
use Rattle.semantics.specs.Registers.{register_count, register_length, register_start}
use Rattle.semantics.specs.Rules.{State}
use Rattle.semantics.specs.Run.{with_register, registers_below}
use Rattle.semantics.specs.Bare as Bare
use Rattle.semantics.proofs.Invariant.{Inv}
use Rattle.semantics.proofs.Registers.{Listed}

-- Lists and a first unused word as a state. What registers do to them does not depend on the log.
abbrev pub memory : Words → Words → Words → ℕ → State
memory vs bs es u = record { values = vs; bases = bs; ends = es; unused = u; log = [] }

-- Lists and first unused word are those of a state.
pub record Holds (s : State) (vs bs es : Words) (u : ℕ) : Type 0 where
  pub values : vs ≡ s.values
  pub bases : bs ≡ s.bases
  pub ends : es ≡ s.ends
  pub unused : u ≡ s.unused

-- The register at place p of a list was set in memory with this first unused word, which left that one.
pub record RegisterSet (l : Words) (p : ℕ) (vs bs es : Words) (u : ℕ) (vs' bs' es' : Words) (u' : ℕ) : Type 0 where
  pub holds : Holds (with_register (word l p) (word l (p + 1)) (take (word l (p + 1)) (drop (p + 2) l)) (memory vs bs es u)) vs' bs' es' u'

-- So were the registers of a list below i.
pub record RegistersSet (l : Words) (i : ℕ) (vs bs es : Words) (u : ℕ) (vs' bs' es' : Words) (u' : ℕ) : Type 0 where
  pub holds : Holds (registers_below l i (memory vs bs es u)) vs' bs' es' u'

-- The register at place p of a list stands in it, and fits in the memory from word u on.
pub record Fits (l : Words) (p u : ℕ) (vs bs es : Words) : Type 0 where
  pub inside : p + 2 + word l (p + 1) ≤ length l
  pub named : 1 + word l p < length vs
  pub room : u + word l (p + 1) ≤ length vs
  pub most : length vs ≤ 65536
  pub bases_length : length bs ≡ length vs
  pub ends_length : length es ≡ length vs
  -- No word has bounds from there on, so none has to be cleared.
  pub clear : (w : ℕ) → u ≤ w → (word bs w ≡ 0) × (word es w ≡ 0)

-- Two states are alike but for their logs, and for values of words that are not in use.
pub record Alike (s s' : State) : Type 0 where
  pub same_length : length s.values ≡ length s'.values
  pub values : take s.unused s.values ≡ take s.unused s'.values
  pub bases : s.bases ≡ s'.bases
  pub ends : s.ends ≡ s'.ends
  pub unused : s.unused ≡ s'.unused

-- All registers of a list that is not refused fit from word u on, the first after the variables of some table, in memory that is like one that
-- a run of it can have.
pub record AllFit (l : Words) (u : ℕ) (vs bs es : Words) : Type 0 where
  pub table : Words
  pub list : Listed table l (length vs)
  pub first : u ≡ 1 + count table variables
  pub state : State
  pub alike : Alike (memory vs bs es u) state
  pub inv : Inv (count table variables) (length vs) state
  pub most : length vs ≤ 65536

-- Which register has word w, if the first one begins at word `first`: the first word of that register, or none where w is past the last.
pub data RegisterOf (l : Words) (first w : ℕ) : Option ℕ → Type 0 where
  in_register : (i : ℕ) → i < register_count l → register_start first l i ≤ w → w < register_start first l i + register_length l i → RegisterOf l first w (Some (register_start first l i))
  past_all : register_start first l (register_count l) ≤ w → RegisterOf l first w None

-- ---- without bounds

abbrev pub bare_memory : Words → ℕ → Bare.State
bare_memory vs u = record { values = vs; unused = u }

-- The register at place p of a list was placed in memory with this first unused word, which left that one.
pub record RegisterPlaced (l : Words) (p : ℕ) (vs : Words) (u : ℕ) (vs' : Words) (u' : ℕ) : Type 0 where
  pub is : bare_memory vs' u' ≡ Bare.with_register (word l p) (word l (p + 1)) (take (word l (p + 1)) (drop (p + 2) l)) (bare_memory vs u)

-- So were the registers of a list below i.
pub record RegistersPlaced (l : Words) (i : ℕ) (vs : Words) (u : ℕ) (vs' : Words) (u' : ℕ) : Type 0 where
  pub is : bare_memory vs' u' ≡ Bare.registers_below l i (bare_memory vs u)

-- The register at place p of a list stands in it, and fits in the memory from word u on.
pub record Placeable (l : Words) (p u : ℕ) (vs : Words) : Type 0 where
  pub inside : p + 2 + word l (p + 1) ≤ length l
  pub named : 1 + word l p < length vs
  pub room : u + word l (p + 1) ≤ length vs
  pub most : length vs ≤ 65536

-- So do all registers of a list that is not refused, from word u on, the first after the variables of some table.
pub record AllPlaceable (l : Words) (u : ℕ) (vs : Words) : Type 0 where
  pub table : Words
  pub list : Listed table l (length vs)
  pub first : u ≡ 1 + count table variables
  pub room : count table variables < length vs
  pub most : length vs ≤ 65536
