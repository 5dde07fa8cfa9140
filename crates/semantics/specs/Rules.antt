-- Document 01, "Steps", request 6's copy and request 8's edition 2, over trees. All sums are exact but for that of a Sum.
use Rattle.std.specs.Prelude.{ℕ, zero, suc, ◌+◌, ◌*◌, ◌-◌, ◌%◌, Bool, true, false, ◌&&◌, List, ◌∷◌, length, set, leb, ltb, eqb, if◌then◌else◌}
use Rattle.semantics.specs.Words.{Words, word, zeroed, moved, all_below}
use Rattle.semantics.specs.Syntax.{Place, Variable, Deref, Field, NoPlace, Value, Number, Sum, Read, Address, Cast, Malloc, Copy, NoValue}

-- A value with its bounds [base, end). "A word with base 0 and end 0 has no bounds."
pub record Datum : Type 0 where
  pub value : ℕ
  pub base : ℕ
  pub end : ℕ

abbrev pub unbounded : ℕ → Datum
unbounded v = record { value = v; base = 0; end = 0 }

-- A pointer to the first of n words, with the bounds of all of them.
abbrev pub block_pointer : ℕ → ℕ → Datum
block_pointer start n = record { value = start; base = start; end = start + n }

-- How a place was come by: it names a variable, or this pointer was followed.
pub data Access : Type 0 where
  named : (variable : ℕ) → Access
  followed : (pointer : Datum) → Access

pub record Location : Type 0 where
  pub at : ℕ
  pub base : ℕ
  pub end : ℕ
  pub access : Access

-- A check that a follow, a field or a copy makes: its node, the place and the number of words wanted, and the bounds of the pointer followed.
pub record BoundsCheck : Type 0 where
  pub node : ℕ
  pub at : ℕ
  pub words : ℕ
  pub base : ℕ
  pub end : ℕ

-- What the fence rule speaks of: a word read, a word written, a block obtained. Request 4: and a check, whether passed or not.
pub data Event : Type 0 where
  loaded : (at : ℕ) → Access → Event
  stored : (at : ℕ) → Access → Event
  allocated : (start words : ℕ) → Event
  tested : BoundsCheck → Event

-- The memory, U, and the events so far, newest first. The log is the rules' own: no program keeps it.
pub record State : Type 0 where
  pub values : Words
  pub bases : Words
  pub ends : Words
  pub unused : ℕ
  pub log : List Event

abbrev pub noted : Event → State → State
noted e s = record { values = s.values; bases = s.bases; ends = s.ends; unused = s.unused; log = e ∷ s.log }

abbrev pub with_values : Words → State → State
with_values values s = record { values = values; bases = s.bases; ends = s.ends; unused = s.unused; log = s.log }

-- `fails` has the check that was not passed. "touching a word with no rule is a fourth ending": no_rule.
pub data Outcome (A : Type 0) : Type 0 where
  ok : A → State → Outcome A
  fails : BoundsCheck → State → Outcome A
  no_room : State → Outcome A
  no_rule : State → Outcome A

abbrev pub bind : {A B : Type 0} → Outcome A → (A → State → Outcome B) → Outcome B
bind (ok a s) f = f a s
bind (fails x s) f = fails x s
bind (no_room s) f = no_room s
bind (no_rule s) f = no_rule s

-- "Variable: its word, with bounds [word, word + 1)." "Variable number i is word 1 + i."
abbrev pub variable_location : ℕ → Location
variable_location i = record { at = 1 + i; base = 1 + i; end = 1 + i + 1; access = named i }

-- Request 5: "how many words, from a given place on, lie within the bounds: 0 if the place is outside them or there are none." The bounds are
-- [b, e), the place is w.
unfoldable pub words_left : (b e w : ℕ) → ℕ
words_left b e w = if leb b w && ltb w e then e - w else 0

-- "Follow and field then ask for at least their own number": by the pointer p, at least k words are left from w on. For k above 0 that is document
-- 01's "b ≤ w and w + k ≤ e" (proofs/Before.antt).
unfoldable pub enough_left : Datum → ℕ → ℕ → Bool
enough_left p w k = leb k (words_left p.base p.end w)

-- Node n wants k words from w on, by the pointer p.
abbrev pub check_of : ℕ → Datum → ℕ → ℕ → BoundsCheck
check_of n p w k = record { node = n; at = w; words = k; base = p.base; end = p.end }

-- "A check not passed is an abort."
unfoldable pub checked : ℕ → Datum → ℕ → ℕ → Location → State → Outcome Location
checked n p w k l s =
    let x = check_of n p w k in
    if enough_left p w k then ok l (noted (tested x) s) else fails x (noted (tested x) s)

-- The place that a pointer points to, with the pointer's bounds; and that place checked for k words.
abbrev pub pointed : Datum → Location
pointed p = record { at = p.value; base = p.base; end = p.end; access = followed p }

abbrev pub pointed_step : ℕ → ℕ → Datum → State → Outcome Location
pointed_step n k p s = checked n p p.value k (pointed p) s

-- "Follow: a pointer v with bounds [b, e) passes when b ≤ v and v + 1 ≤ e. The place is v and keeps [b, e)"
unfoldable pub deref_step : ℕ → Datum → State → Outcome Location
deref_step n p s = pointed_step n 1 p s

-- "Field: with w = v + offset and k the field's count, it passes when b ≤ w and w + k ≤ e. The place is w with bounds [w, w + k)."
unfoldable pub field_step : ℕ → ℕ → ℕ → Datum → State → Outcome Location
field_step n offset k p s =
    checked n p (p.value + offset) k
    (record { at = p.value + offset; base = p.value + offset; end = p.value + offset + k; access = followed p }) s

-- "Reading or assigning word 0, or a word not below U, has no rule."
unfoldable pub touchable : State → ℕ → Bool
touchable s w = ltb 0 w && ltb w s.unused

-- "Read: a pointer type gives value, base and end of the word; int gives the value without bounds"; edition 2 gives all three of every type
abbrev pub contents : Bool → State → ℕ → Datum
contents true s w = record { value = word s.values w; base = word s.bases w; end = word s.ends w }
contents false s w = unbounded (word s.values w)

unfoldable pub read_step : Bool → Location → State → Outcome Datum
read_step bounds l s =
    if touchable s l.at then ok (contents bounds s l.at) (noted (loaded l.at l.access) s) else no_rule s

-- "Address: the place's word with the place's bounds"
abbrev pub address_step : Location → State → Outcome Datum
address_step l s = ok (record { value = l.at; base = l.base; end = l.end }) s

-- The operand that a sum has its bounds from: the left one; in edition 2 "the left bounds if the left end isn't 0, else the right ones".
unfoldable pub takes_right : Bool → (left right : Datum) → Bool
takes_right either p x = either && eqb p.end 0

abbrev pub bounds_from : Bool → (left right : Datum) → Datum
bounds_from either p x = if takes_right either p x then x else p

-- "Sum: modulo 4,294,967,296. A sum of a pointer and a number moves the pointer .. and keeps its bounds." Request 2: by "that number
-- times the record's size, modulo 4,294,967,296"
abbrev pub sum_step : Bool → ℕ → Datum → Datum → State → Outcome Datum
sum_step either step p x s =
    let d = bounds_from either p x in
    ok (record { value = (p.value + step * x.value) % 4294967296; base = d.base; end = d.end }) s

-- "Cast: pointer to pointer keeps everything; from int, or to int, the value is kept without bounds." Edition 2: "a cast changes nothing".
abbrev pub cast_step : Bool → Datum → State → Outcome Datum
cast_step true p s = ok p s
cast_step false p s = ok (unbounded p.value) s

-- The state after n words from U on were obtained: "U rises by n. The new words are clear."
abbrev pub with_block : ℕ → State → State
with_block n s =
    record {
      values = zeroed s.values s.unused n;
      bases = zeroed s.bases s.unused n;
      ends = zeroed s.ends s.unused n;
      unused = s.unused + n;
      log = allocated s.unused n ∷ s.log;
    }

-- "Obtain n: for n = 0, value 0 without bounds. Else no room exactly when U + n exceeds the length; otherwise value U,
-- bounds [U, U + n), and U rises by n."
unfoldable pub malloc_step : Datum → State → Outcome Datum
malloc_step x s =
    if eqb x.value 0 then ok (unbounded 0) s else
    if leb (s.unused + x.value) (length s.values) then
    ok (block_pointer s.unused x.value) (with_block x.value s) else
    no_room s

-- One event for each of k words, e 0 the oldest.
unfoldable pub each_noted : ℕ → (ℕ → Event) → List Event → List Event
each_noted zero e log = log
each_noted (suc k) e log = e k ∷ each_noted k e log

-- Request 6: "The words at b go to a, with value, base and end, as they were before the copy, even where the two overlap." All are read, then all
-- are written: "for a word read the pointer followed is b, for a word written it is a."
abbrev pub with_copy : ℕ → Location → Location → State → State
with_copy k a b s =
    record {
      values = moved s.values a.at b.at k;
      bases = moved s.bases a.at b.at k;
      ends = moved s.ends a.at b.at k;
      unused = s.unused;
      log = each_noted k (λ i. stored (a.at + i) a.access) (each_noted k (λ i. loaded (b.at + i) b.access) s.log);
    }

-- "The result is the number of words, without bounds." A word that may not be read or assigned has no rule here either.
unfoldable pub move_step : ℕ → Location → Location → State → Outcome Datum
move_step k a b s =
    if all_below k (λ i. touchable s (b.at + i) && touchable s (a.at + i)) then ok (unbounded k) (with_copy k a b s) else no_rule s

-- "Both are evaluated, then a's place is checked for the record's size, then b's; the explaining tool names kind 11's node for either."
unfoldable pub copy_step : ℕ → ℕ → Datum → Datum → State → Outcome Datum
copy_step n k p q s = bind (pointed_step n k p s) (λ a s'. bind (pointed_step n k q s') (move_step k a))

-- "Evaluation is a cycle: a place may need a value worked out first, and a value may need a place. Child a goes before child b"
unfoldable mutual
  pub place_at : Place → State → Outcome Location
  place_at (Variable n i) s = ok (variable_location i) s
  place_at (Deref n v) s = bind (value_at v s) (deref_step n)
  place_at (Field n offset k v) s = bind (value_at v s) (field_step n offset k)
  place_at NoPlace s = no_rule s

  pub value_at : Value → State → Outcome Datum
  value_at (Number n x) s = ok (unbounded x) s
  value_at (Sum n either step a b) s = bind (value_at a s) (λ p s'. bind (value_at b s') (sum_step either step p))
  value_at (Read n bounds p) s = bind (place_at p s) (read_step bounds)
  value_at (Address n p) s = bind (place_at p s) address_step
  value_at (Cast n keeps v) s = bind (value_at v s) (cast_step keeps)
  value_at (Malloc n v) s = bind (value_at v s) malloc_step
  value_at (Copy n k a b) s = bind (value_at a s) (λ p s'. bind (value_at b s') (copy_step n k p))
  value_at NoValue s = no_rule s

-- "Assign: a pointer type stores value, base and end; int stores the value only, and the word's base and end stay." Edition 2 stores all three of every
-- type.
abbrev pub with_datum : Bool → ℕ → Datum → State → State
with_datum true w x s =
    record { values = set s.values w x.value; bases = set s.bases w x.base; ends = set s.ends w x.end; unused = s.unused; log = s.log }
with_datum false w x s = with_values (set s.values w x.value) s

unfoldable pub assign_step : Bool → Location → Datum → State → Outcome (Unit {0})
assign_step bounds l x s =
    if touchable s l.at then ok tt (noted (stored l.at l.access) (with_datum bounds l.at x s)) else no_rule s

-- "a command's place before its value"
unfoldable pub assign : Bool → Place → Value → State → Outcome (Unit {0})
assign bounds p v s = bind (place_at p s) (λ l s'. bind (value_at v s') (assign_step bounds l))
