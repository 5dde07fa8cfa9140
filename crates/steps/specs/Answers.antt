-- How a step answers: one number for the value or the place, or for how evaluation ended; beside it, in slots, base, end and U, on the
-- failing path the check that was not passed, and the block that was watched for.
use Rattle.std.specs.Prelude.{◌≡◌, ℕ, ◌<◌, ◌≤◌, Bool, true, false, List, length, Result, Ok, Err}
use Rattle.semantics.specs.Words.{moved}
use Rattle.semantics.specs.Table.{is_pointer}
use Rattle.semantics.specs.Rules.{Datum, Location, BoundsCheck, Event, State, Outcome, ok, fails, no_room, bind, deref_step, field_step, sum_step, read_step, cast_step, malloc_step, copy_step}
use Rattle.semantics.specs.Explain.{block_start}
use Rattle.semantics.proofs.Invariant.{Inv, DatumOk, LocationOk, Good}
use Rattle.steps.specs.declared.FailedCheck.{FailedCheck}
use Rattle.steps.specs.declared.Halt.{Halt}
use Rattle.steps.specs.declared.Halt.TheVariants as halt
use Rattle.steps.specs.declared.Memory.{Memory}
use Rattle.steps.specs.declared.Slots.{Slots}

abbrev pub failed : ℕ
failed = 4294967296

abbrev pub full : ℕ
full = 4294967297

-- The memory is three lists: values, bases and ends.
abbrev pub state_of : Memory → ℕ → List Event → State
state_of m u log = record { values = m.values.now; bases = m.bases.now; ends = m.ends.now; unused = u; log = log }

-- The memory's lists are the same references, whatever words they have.
pub record SameLists (m m' : Memory) : Type 0 where
  pub values : m'.values.ghost_name ≡ m.values.ghost_name
  pub bases : m'.bases.ghost_name ≡ m.bases.ghost_name
  pub ends : m'.ends.ghost_name ≡ m.ends.ghost_name

-- The check that the slots tell.
abbrev pub check_in : Slots → BoundsCheck
check_in s = record { node = s.node; at = s.place; words = s.words; base = s.base; end = s.end }

-- The check that a struct tells.
abbrev pub check_told : FailedCheck → BoundsCheck
check_told x = record { node = x.node; at = x.place; words = x.words; base = x.base; end = x.end }

-- A result is r, with base and end in the slots.
pub record DatumIs (d : Datum) (r : ℕ) (s : Slots) : Type 0 where
  pub value : d.value ≡ r
  pub base : d.base ≡ s.base
  pub end : d.end ≡ s.end

pub record LocationIs (l : Location) (r : ℕ) (s : Slots) : Type 0 where
  pub at : l.at ≡ r
  pub base : l.base ≡ s.base
  pub end : l.end ≡ s.end

-- Its bounds are not asked.
pub record NumberIs (d : Datum) (r : ℕ) (s : Slots) : Type 0 where
  pub value : d.value ≡ r

pub record PlaceIs (l : Location) (r : ℕ) (s : Slots) : Type 0 where
  pub at : l.at ≡ r

-- Word w is watched for, in a memory of len words: until a block has it, the limit is w; from then on, the end of the memory. Blocks lie one after
-- the other, so the one that first ends past w has it.
pub data Watches (w len : ℕ) (s : Slots) (log : List Event) : Type 0 where
  waiting : s.limit ≡ w → s.unused ≤ w → w ≤ len → s.found ≡ block_start log w → Watches w len s log
  seen : s.limit ≡ len → w < s.unused → s.found ≡ block_start log w → Watches w len s log

-- The lists m and the slots s are a state of a run that the rules can come to, with this log, and w is watched for.
pub record Stands (vars w : ℕ) (m : Memory) (s : Slots) (log : List Event) : Type 0 where
  pub inv : Inv vars (length m.values.now) (state_of m s.unused log)
  pub watches : Watches w (length m.values.now) s log

-- An outcome is what was answered, r with the slots s, over the lists m and some log: a result; the check in the slots, not passed; or no room.
pub data Answers {A : Type 0} (Is : A → ℕ → Slots → Type 0) (w : ℕ) (m : Memory) (r : ℕ) (s : Slots) : Outcome A → Type 0 where
  answers_ok : (x : A) (log : List Event) → Is x r s → r < failed → Watches w (length m.values.now) s log → Answers Is w m r s (ok x (state_of m s.unused log))
  answers_failed : (log : List Event) → r ≡ failed → Watches w (length m.values.now) s log → Answers Is w m r s (fails (check_in s) (state_of m s.unused log))
  answers_full : (log : List Event) → r ≡ full → Answers Is w m r s (no_room (state_of m s.unused log))

-- What the number r says: a value or a place, or how evaluation ended.
pub data Says (r : ℕ) : Result ℕ Halt → Type 0 where
  says_ok : r < failed → Says r (Ok r)
  says_failed : r ≡ failed → Says r (Err halt.Failed)
  says_no_room : failed < r → Says r (Err halt.NoRoom)

-- What only an allocation changes: U, and what is watched for.
pub record Kept (s s' : Slots) : Type 0 where
  pub unused : s'.unused ≡ s.unused
  pub limit : s'.limit ≡ s.limit
  pub found : s'.found ≡ s.found

-- s' has the base b and the end e.
pub record Bounded (b e : ℕ) (s s' : Slots) : Type 0 where
  pub base : s'.base ≡ b
  pub end : s'.end ≡ e
  pub kept : Kept s s'

-- The result x without a step: r and the slots s'.
pub record Given {A : Type 0} (Is : A → ℕ → Slots → Type 0) (x : A) (s : Slots) (r : ℕ) (s' : Slots) : Type 0 where
  pub is : Is x r s'
  pub small : r < failed
  pub kept : Kept s s'

-- s' tells the check of node n for k words from w on, with base and end as in s.
pub record Told (n w k : ℕ) (s s' : Slots) : Type 0 where
  pub kept : Kept s s'
  pub told : check_in s' ≡ record { node = n; at = w; words = k; base = s.base; end = s.end }

-- The struct that tells what the slots s do.
pub record Tells (s : Slots) (x : FailedCheck) : Type 0 where
  pub check : check_told x ≡ check_in s
  pub block : x.block ≡ s.found

-- Whether words from U up to `top` can be handed out. Past the limit they are looked at: if the memory has room for them, s' has their start as
-- found, and the memory's end as the limit.
pub data Reserved (top len : ℕ) (s s' : Slots) : Bool → Type 0 where
  below_limit : top < failed → top ≤ s.limit → s' ≡ s → Reserved top len s s' true
  past_limit : top < failed → s.limit < top → top ≤ len → s'.unused ≡ s.unused → s'.limit ≡ len
      → s'.found ≡ s.unused → Reserved top len s s' true
  no_words : len < top → s' ≡ s → Reserved top len s s' false

-- The lists m' are the lists m with n words of each moved.
pub record Moved (to from n : ℕ) (m m' : Memory) : Type 0 where
  pub values : m'.values.now ≡ moved m.values.now to from n
  pub bases : m'.bases.now ≡ moved m.bases.now to from n
  pub ends : m'.ends.now ≡ moved m.ends.now to from n

-- Words up to e lie in all three lists.
pub record Inside (e : ℕ) (m : Memory) : Type 0 where
  pub values : e ≤ length m.values.now
  pub bases : e ≤ length m.bases.now
  pub ends : e ≤ length m.ends.now

-- A node is finished, over the lists m, by the rules' step f: where its child's outcome was answered by v with the slots s, the node's is
-- answered by r with s', and with the lists m'. That the child's outcome is good is what the invariant gives; s₀ is the state that the child began
-- with.
pub record Finishes {A B : Type 0} (Child : A → ℕ → Slots → Type 0) (Ok : ℕ → A → State → Type 0) (Node : B → ℕ → Slots → Type 0)
    (f : A → State → Outcome B) (m : Memory) (v : ℕ) (s : Slots) (r : ℕ) (m' : Memory) (s' : Slots) : Type 0 where
  pub meets : (vars len w : ℕ) (s₀ : State) (o : Outcome A) → Answers Child w m v s o → Good vars len s₀ (Ok vars) o → Answers Node w m' r s' (bind o f)

-- What each function that finishes a node answers, from what its child answered. All but a copy leave the lists as they are.

abbrev pub DerefFinishes : ℕ → Memory → ℕ → Slots → ℕ → Slots → Type 0
DerefFinishes n m v s r = Finishes DatumIs DatumOk LocationIs (deref_step n) m v s r m

abbrev pub FieldFinishes : ℕ → ℕ → ℕ → Memory → ℕ → Slots → ℕ → Slots → Type 0
FieldFinishes n offset words m v s r = Finishes DatumIs DatumOk LocationIs (field_step n offset words) m v s r m

-- The left operand is p. The rule is edition 2's.
abbrev pub SumFinishes : ℕ → Datum → Memory → ℕ → Slots → ℕ → Slots → Type 0
SumFinishes step p m v s r = Finishes DatumIs DatumOk DatumIs (sum_step true step p) m v s r m

abbrev pub LoadFinishes : ℕ → Memory → ℕ → Slots → ℕ → Slots → Type 0
LoadFinishes bounds m v s r = Finishes PlaceIs LocationOk DatumIs (read_step (is_pointer bounds)) m v s r m

abbrev pub CastFinishes : Memory → ℕ → Slots → ℕ → Slots → Type 0
CastFinishes m v s r = Finishes NumberIs DatumOk DatumIs (cast_step false) m v s r m

abbrev pub MallocFinishes : Memory → ℕ → Slots → ℕ → Slots → Type 0
MallocFinishes m v s r = Finishes NumberIs DatumOk DatumIs malloc_step m v s r m

-- The bounds of p and of a value beside it are absent or held.
pub record BothOk (p : Datum) (vars : ℕ) (x : Datum) (s : State) : Type 0 where
  pub left : DatumOk vars p s
  pub right : DatumOk vars x s

-- The left operand is p.
abbrev pub CopyFinishes : ℕ → ℕ → Datum → Memory → ℕ → Slots → ℕ → Memory → Slots → Type 0
CopyFinishes n k p = Finishes DatumIs (BothOk p) DatumIs (copy_step n k p)
