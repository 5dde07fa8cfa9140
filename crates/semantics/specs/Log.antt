-- The log can be believed. Spatial safety speaks of the log, so these statements say what a log has: every word written, every word that sways
-- the run, and blocks that lie apart; how each step comes by its place and its event; and by which check it fails. Those about a call are of
-- its run when it is begun.
use Rattle.std.specs.Prelude.{ℕ, ◌+◌, ◌≤◌, ◌<◌, Bool, true, false, ◌≡◌, ◌⊎◌, length, set}
use mathlib.Core.List.{List, ◌∷◌, ◌++◌, Memᴰ}
use Rattle.semantics.specs.Words.{Words, word}
use Rattle.semantics.specs.Table.{variables, commands, count}
use Rattle.semantics.specs.Check.{passes, call_fault}
use Rattle.semantics.specs.Syntax.{Place, Variable, Deref, Field, Value, Number, Sum, Read, Address, Cast, Malloc, Copy}
use Rattle.semantics.specs.Rules.{Datum, unbounded, block_pointer, Access, named, followed, Location, BoundsCheck, Event, loaded, stored, allocated, tested, State, ok, fails, check_of, each_noted, place_at, value_at}
use Rattle.semantics.specs.Run.{begin, Run, commands_below, run}
use Rattle.semantics.specs.Safety.{Held}

-- ---- Blocks

-- "A block is the words that an obtain with n above 0 gives bounds for", in memory of this length beside this many variables.
pub record BlocksApart (vars len : ℕ) (log : List Event) : Type 0 where
  -- Each has at least one word, and lies above the variables and within the memory.
  pub inside : (s n : ℕ) → Memᴰ (allocated s n) log → (1 ≤ n) × (1 + vars ≤ s) × (s + n ≤ len)
  -- It shares no word with a block that was obtained before it.
  pub apart : (later earlier : List Event) (s n s' n' w : ℕ) → log ≡ later ++ allocated s n ∷ earlier → Memᴰ (allocated s' n') earlier
      → s ≤ w → w < s + n → s' ≤ w → w < s' + n' → ⊥
  -- So bounds lie in one variable or block, and in no other.
  pub one : {b e : ℕ} (h k : Held vars log b e) → (h.s ≡ k.s) × (h.t ≡ k.t)

-- ---- Words read and words written

-- Value, base and end of word w are the same in two states.
pub record SameWord (w : ℕ) (s s' : State) : Type 0 where
  pub value : word s.values w ≡ word s'.values w
  pub base : word s.bases w ≡ word s'.bases w
  pub end : word s.ends w ≡ word s'.ends w

-- No event of the log writes word w.
abbrev pub Unwritten : ℕ → List Event → Type 0
Unwritten w log = (a : Access) → Memᴰ (stored w a) log → ⊥

-- Two states of one shape, alike in every word that the log has as read.
pub record Alike (log : List Event) (s s' : State) : Type 0 where
  pub unused : s.unused ≡ s'.unused
  pub same_log : s.log ≡ s'.log
  pub values_length : length s.values ≡ length s'.values
  pub bases_length : length s.bases ≡ length s'.bases
  pub ends_length : length s.ends ≡ length s'.ends
  pub read : (w : ℕ) (a : Access) → Memᴰ (loaded w a) log → SameWord w s s'

-- Two runs, begun in s and in s', have the same ending, U and log. Words in which s and s' are alike are alike at the end, and what was written
-- to a word is the same.
pub record EndsAlike (s s' : State) (r r' : Run) : Type 0 where
  pub ending : r.ending ≡ r'.ending
  pub unused : r.state.unused ≡ r'.state.unused
  pub same_log : r.state.log ≡ r'.state.log
  pub words : (w : ℕ) → SameWord w s s' → SameWord w r.state r'.state
  pub written : (w : ℕ) (a : Access) → Memᴰ (stored w a) r.state.log → word r.state.values w ≡ word r'.state.values w

-- ---- How a place is come by, and the events of a step

-- One event more, and memory and U as they were.
pub record Noted (e : Event) (s s' : State) : Type 0 where
  pub values : s'.values ≡ s.values
  pub bases : s'.bases ≡ s.bases
  pub ends : s'.ends ≡ s.ends
  pub unused : s'.unused ≡ s.unused
  pub log : s'.log ≡ e ∷ s.log

-- Node n's check of k words from w on, by the pointer p, is passed: each of them lies within the pointer's bounds. "Word w lies within [b, e) when
-- b ≤ w and w + 1 ≤ e." The check is one event.
pub record Passes (n : ℕ) (p : Datum) (w k : ℕ) (s s' : State) : Type 0 where
  pub inside : (i : ℕ) → i < k → (p.base ≤ w + i) × (w + i + 1 ≤ p.end)
  pub event : Noted (tested (check_of n p w k)) s s'

-- A place of node n that a pointer was followed to: "its child a is the pointer followed, and the bounds are those that this value had when the
-- place was worked out." It is `offset` words past the pointer's value. Its check, of `words` words from there on, is the one event of the place's
-- own, after those of the child.
pub record FollowedTo (n : ℕ) (v : Value) (offset words : ℕ) (s : State) (l : Location) (s' : State) : Type 0 where
  pub pointer : Datum
  pub s₁ : State
  pub child : value_at v s ≡ ok pointer s₁
  pub access : l.access ≡ followed pointer
  pub at : l.at ≡ pointer.value + offset
  pub check : Passes n pointer l.at words s₁ s'

-- How a tree comes by its place l: worked out from state s, with state s' afterwards.
pub data ComesBy (s : State) (l : Location) (s' : State) : Place → Type 0 where
  -- "A read or an assignment names a variable when its place is of kind 1." "Variable: its word, with bounds [word, word + 1)."
  variable_place : {n i : ℕ} → l.access ≡ named i → l.at ≡ 1 + i → l.base ≡ 1 + i → l.end ≡ 1 + i + 1 → s' ≡ s → ComesBy s l s' (Variable n i)
  -- "Otherwise the place is a follow or a field": "The place is v and keeps [b, e)"
  deref_place : {n : ℕ} {v : Value} (f : FollowedTo n v 0 1 s l s') → l.base ≡ f.pointer.base → l.end ≡ f.pointer.end → ComesBy s l s' (Deref n v)
  -- "The place is w with bounds [w, w + k)."
  field_place : {n offset k : ℕ} {v : Value} → FollowedTo n v offset k s l s' → l.base ≡ l.at → l.end ≡ l.at + k → ComesBy s l s' (Field n offset k v)

-- "Read: a pointer type gives value, base and end of the word; int gives the value without bounds"; in edition 2 every type gives all three.
pub data WordRead (s : State) (w : ℕ) (d : Datum) : Bool → Type 0 where
  bounds_read : d.value ≡ word s.values w → d.base ≡ word s.bases w → d.end ≡ word s.ends w → WordRead s w d true
  value_read : d.value ≡ word s.values w → d.base ≡ 0 → d.end ≡ 0 → WordRead s w d false

-- Value, base and end of word w are 0.
pub record ClearWord (w : ℕ) (s : State) : Type 0 where
  pub value : word s.values w ≡ 0
  pub base : word s.bases w ≡ 0
  pub end : word s.ends w ≡ 0

-- "Obtain n: for n = 0, value 0 without bounds. Else .. value U, bounds [U, U + n), and U rises by n. The new words are clear." All other words
-- are as they were, and the block is one event.
pub data Allocates (n : ℕ) (s : State) (d : Datum) (s' : State) : Type 0 where
  no_words : n ≡ 0 → d ≡ unbounded 0 → s' ≡ s → Allocates n s d s'
  new_block : 1 ≤ n → d ≡ block_pointer s.unused n → s'.unused ≡ s.unused + n → s'.log ≡ allocated s.unused n ∷ s.log
      → ((w : ℕ) → s.unused ≤ w → w < s.unused + n → ClearWord w s') → ((w : ℕ) → (w < s.unused) ⊎ (s.unused + n ≤ w) → SameWord w s s')
      → Allocates n s d s'

-- Request 6: "The words at b go to a .. as they were before the copy, even where the two overlap." Of one list: each of the k words from `to` on
-- holds what the word as far from `from` on held, if the list is so long; every other word is as it was.
pub record Moves (to from k : ℕ) (l l' : Words) : Type 0 where
  pub same_length : length l' ≡ length l
  pub there : (i : ℕ) → i < k → to + i < length l → word l' (to + i) ≡ word l (from + i)
  pub elsewhere : (w : ℕ) → (w < to) ⊎ (to + k ≤ w) → word l' w ≡ word l w

-- A copy of k words by node n, to the pointer p from the pointer q: "then a's place is checked for the record's size, then b's"; the words move "with
-- value, base and end"; and "for a word read the pointer followed is b, for a word written it is a." "The result is the number of words, without
-- bounds."
pub record Copies (n k : ℕ) (p q : Datum) (s : State) (d : Datum) (s' : State) : Type 0 where
  pub s₁ : State
  pub to : Passes n p p.value k s s₁
  pub s₂ : State
  pub from : Passes n q q.value k s₁ s₂
  pub result : d ≡ unbounded k
  pub values : Moves p.value q.value k s₂.values s'.values
  pub bases : Moves p.value q.value k s₂.bases s'.bases
  pub ends : Moves p.value q.value k s₂.ends s'.ends
  pub unused : s'.unused ≡ s₂.unused
  pub log : s'.log ≡ each_noted k (λ i. stored (p.value + i) (followed p)) (each_noted k (λ i. loaded (q.value + i) (followed q)) s₂.log)

-- "Both are evaluated": a first, and then b.
pub record Operands (a b : Value) (s : State) (p q : Datum) (s' : State) : Type 0 where
  pub s₁ : State
  pub first : value_at a s ≡ ok p s₁
  pub second : value_at b s₁ ≡ ok q s'

-- How a tree comes by its value d. "The routine reads a word at a read": that is one event, with the place's access; a block is one too; a copy has
-- those of its checks and its words; and no other tree has an event of its own.
pub data Gives (s : State) (d : Datum) (s' : State) : Value → Type 0 where
  number_value : {n x : ℕ} → s' ≡ s → Gives s d s' (Number n x)
  sum_value : {n : ℕ} {either : Bool} {step : ℕ} {a b : Value} (p x : Datum) (s₁ : State) → value_at a s ≡ ok p s₁ → value_at b s₁ ≡ ok x s' → Gives s d s' (Sum n either step a b)
  read_value : {n : ℕ} {bounds : Bool} {p : Place} (l : Location) (s₁ : State) → place_at p s ≡ ok l s₁
      → WordRead s₁ l.at d bounds → Noted (loaded l.at l.access) s₁ s' → Gives s d s' (Read n bounds p)
  address_value : {n : ℕ} {p : Place} (l : Location) → place_at p s ≡ ok l s' → Gives s d s' (Address n p)
  cast_value : {n : ℕ} {keeps : Bool} {v : Value} (x : Datum) → value_at v s ≡ ok x s' → Gives s d s' (Cast n keeps v)
  malloc_value : {n : ℕ} {v : Value} (x : Datum) (s₁ : State) → value_at v s ≡ ok x s₁ → Allocates x.value s₁ d s' → Gives s d s' (Malloc n v)
  copy_value : {n k : ℕ} {a b : Value} (p q : Datum) (s₁ : State) → Operands a b s p q s₁ → Copies n k p q s₁ d s' → Gives s d s' (Copy n k a b)

-- "Assign: a pointer type stores value, base and end; int stores the value only, and the word's base and end stay"; in edition 2 every type stores all
-- three.
pub data WordStored (s : State) (w : ℕ) (x : Datum) (s' : State) : Bool → Type 0 where
  bounds_stored : s'.values ≡ set s.values w x.value → s'.bases ≡ set s.bases w x.base → s'.ends ≡ set s.ends w x.end
      → WordStored s w x s' true
  value_stored : s'.values ≡ set s.values w x.value → s'.bases ≡ s.bases → s'.ends ≡ s.ends → WordStored s w x s' false

-- A command that is done: "a command's place before its value". "The routine .. writes one at an assign": one event, with the place's access.
pub record Assigns (bounds : Bool) (p : Place) (v : Value) (s s' : State) : Type 0 where
  pub l : Location
  pub s₁ : State
  pub place : place_at p s ≡ ok l s₁
  pub x : Datum
  pub s₂ : State
  pub value : value_at v s₁ ≡ ok x s₂
  pub memory : WordStored s₂ l.at x s' bounds
  pub unused : s'.unused ≡ s₂.unused
  pub log : s'.log ≡ stored l.at l.access ∷ s₂.log

-- ---- The check by which a step fails

-- Node n's check of k words from w on, by the pointer p, is not passed: "A check not passed is an abort." It is one event.
pub record Misses (n : ℕ) (p : Datum) (w k : ℕ) (s : State) (x : BoundsCheck) (s' : State) : Type 0 where
  pub is : x ≡ check_of n p w k
  pub not_passed : x.base ≤ x.at → x.at + x.words ≤ x.end → ⊥
  pub event : Noted (tested x) s s'

-- A place's own check, by the pointer that its child gave, after the child's events.
pub record OwnCheck (n : ℕ) (v : Value) (offset words : ℕ) (s : State) (x : BoundsCheck) (s' : State) : Type 0 where
  pub pointer : Datum
  pub s₁ : State
  pub child : value_at v s ≡ ok pointer s₁
  pub check : Misses n pointer (pointer.value + offset) words s₁ x s'

-- How a tree fails: a follow or a field by its own check or where its child did, a copy by one of its two checks or where a child did, any other
-- tree where a child did. Where a child did, it is by that child's check and in that child's state. "Child a goes before child b"
pub data PlaceFails (s : State) (x : BoundsCheck) (s' : State) : Place → Type 0 where
  deref_check : {n : ℕ} {v : Value} → OwnCheck n v 0 1 s x s' → PlaceFails s x s' (Deref n v)
  deref_child : {n : ℕ} {v : Value} → value_at v s ≡ fails x s' → PlaceFails s x s' (Deref n v)
  field_check : {n offset k : ℕ} {v : Value} → OwnCheck n v offset k s x s' → PlaceFails s x s' (Field n offset k v)
  field_child : {n offset k : ℕ} {v : Value} → value_at v s ≡ fails x s' → PlaceFails s x s' (Field n offset k v)

pub data ValueFails (s : State) (x : BoundsCheck) (s' : State) : Value → Type 0 where
  sum_left : {n : ℕ} {either : Bool} {step : ℕ} {a b : Value} → value_at a s ≡ fails x s' → ValueFails s x s' (Sum n either step a b)
  sum_right : {n : ℕ} {either : Bool} {step : ℕ} {a b : Value} (p : Datum) (s₁ : State) → value_at a s ≡ ok p s₁ → value_at b s₁ ≡ fails x s' → ValueFails s x s' (Sum n either step a b)
  read_place : {n : ℕ} {bounds : Bool} {p : Place} → place_at p s ≡ fails x s' → ValueFails s x s' (Read n bounds p)
  address_place : {n : ℕ} {p : Place} → place_at p s ≡ fails x s' → ValueFails s x s' (Address n p)
  cast_child : {n : ℕ} {keeps : Bool} {v : Value} → value_at v s ≡ fails x s' → ValueFails s x s' (Cast n keeps v)
  malloc_child : {n : ℕ} {v : Value} → value_at v s ≡ fails x s' → ValueFails s x s' (Malloc n v)
  copy_left : {n k : ℕ} {a b : Value} → value_at a s ≡ fails x s' → ValueFails s x s' (Copy n k a b)
  copy_right : {n k : ℕ} {a b : Value} (p : Datum) (s₁ : State) → value_at a s ≡ ok p s₁ → value_at b s₁ ≡ fails x s' → ValueFails s x s' (Copy n k a b)
  -- "then a's place is checked .., then b's": no word is written before both are passed
  copy_to : {n k : ℕ} {a b : Value} (p q : Datum) (s₁ : State) → Operands a b s p q s₁ → Misses n p p.value k s₁ x s' → ValueFails s x s' (Copy n k a b)
  copy_from : {n k : ℕ} {a b : Value} (p q : Datum) (s₁ s₂ : State) → Operands a b s p q s₁ → Passes n p p.value k s₁ s₂ → Misses n q q.value k s₂ x s'
      → ValueFails s x s' (Copy n k a b)

-- "a command's place before its value"
pub data AssignFails (p : Place) (v : Value) (s : State) (x : BoundsCheck) (s' : State) : Type 0 where
  in_place : place_at p s ≡ fails x s' → AssignFails p v s x s'
  in_value : (l : Location) (s₁ : State) → place_at p s ≡ ok l s₁ → value_at v s₁ ≡ fails x s' → AssignFails p v s x s'

-- ---- A call

-- What holds of the log of a run that began in state s, in memory of this length, with this many variables and these commands of the table.
pub record Believable (t : Words) (len : ℕ) (s : State) (r : Run) : Type 0 where
  pub blocks : BlocksApart (count t variables) len r.state.log
  -- A word that the log does not have as written is as the run began with it.
  pub writes : (w : ℕ) → Unwritten w r.state.log → SameWord w s r.state
  -- Words that the log does not have as read do not sway the run.
  pub reads : (s' : State) → Alike r.state.log s s' → EndsAlike s s' r (commands_below t (count t commands) s')

-- Of every call whose run is begun.
abbrev pub LogBelievable : Words → Words → Words → Words → Words → Words → Type 0
LogBelievable t inputs registers values bases ends =
    call_fault t inputs registers (length values) (length bases) (length ends) ≡ passes
    → Believable t (length values) (begin t inputs registers (length values)) (run t inputs registers (length values))
