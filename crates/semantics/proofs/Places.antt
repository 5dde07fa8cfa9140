-- How each tree comes by its place or its value, and the events that a read, a malloc, a copy and an assign have.
use Rattle.std.specs.Prelude.{if◌then◌else◌}
use Prim.Native.Nat.{ℕ, ◌+◌, ◌≤◌, ◌<◌}
use mathlib.Core.Bool.{Bool, true, false}
use mathlib.Core.Path.{◌≡◌, refl, sym, ap, ◌∙◌}
use mathlib.Core.Logic.{◌⊎◌}
use mathlib.Core.List.{◌∷◌}
use native.Mathlib.Omega.{arith}
use borrow.Author.Tests.{eqb-true, eqb-false}
use lib.Dec.{leb, eqb}
use lib.ListN.{length}
use Rattle.semantics.specs.Words.{Words, moved, all_below}
use Rattle.semantics.specs.Syntax.{Place, Variable, Deref, Field, NoPlace, Value, Number, Sum, Read, Address, Cast, Malloc, Copy, NoValue}
use Rattle.semantics.specs.Rules.{Datum, unbounded, block_pointer, Location, BoundsCheck, Event, stored, tested, State, noted, Outcome, ok, fails, no_room, no_rule, bind, check_of, checked, pointed_step, deref_step, field_step, touchable, contents, read_step, cast_step, with_block, malloc_step, move_step, copy_step, place_at, value_at, with_datum, assign_step, assign}
use Rattle.semantics.specs.Log.{Noted, Passes, ComesBy, variable_place, deref_place, field_place, WordRead, bounds_read, value_read, Allocates, no_words, new_block, Moves, Copies, Gives, number_value, sum_value, read_value, address_value, cast_value, malloc_value, copy_value, WordStored, bounds_stored, value_stored, Assigns, ClearWord, SameWord}
use Rattle.semantics.proofs.Tests.{CheckMade, check_passed, check_missed, check_made}
use Rattle.semantics.proofs.Lists.{zeroed_inside, zeroed_outside, moved_length, moved_inside, moved_outside}

-- ---- outcomes that are ok

module _ {A : Type 0} where
  same_result : {a b : A} {s s' : State} → ok a s ≡ ok b s' → a ≡ b
  same_result e = cc

  same_state : {a b : A} {s s' : State} → ok a s ≡ ok b s' → s ≡ s'
  same_state e = cc

  in_state : {o : Outcome A} {a : A} {s s' : State} → o ≡ ok a s → s ≡ s' → o ≡ ok a s'
  in_state {a = a} e q = e ∙ ap (ok a) q

  fails_not : {x : BoundsCheck} {a : A} {s s' : State} → fails x s ≡ ok a s' → ⊥
  fails_not e = let z : ◌≡◌ {A = ℕ} 0 1 = cc in omega arith

  no_room_not : {a : A} {s s' : State} → no_room s ≡ ok a s' → ⊥
  no_room_not e = let z : ◌≡◌ {A = ℕ} 0 1 = cc in omega arith

  no_rule_not : {a : A} {s s' : State} → no_rule s ≡ ok a s' → ⊥
  no_rule_not e = let z : ◌≡◌ {A = ℕ} 0 1 = cc in omega arith

-- A word that was touched could be.
touched : {A : Type 0} (t : Bool) (a : A) (s s₁ : State) {b : A} {s' : State} → (if t then ok a s₁ else no_rule s) ≡ ok b s' → ok a s₁ ≡ ok b s'
touched true a s s₁ e = e
touched false a s s₁ e = absurd (no_rule_not e)

-- Two steps that are ok together: each is.
record Both {A B : Type 0} (o : Outcome A) (f : A → State → Outcome B) (b : B) (s' : State) : Type 0 where
  a : A
  s₁ : State
  first : o ≡ ok a s₁
  second : f a s₁ ≡ ok b s'

both : {A B : Type 0} (o : Outcome A) (f : A → State → Outcome B) {b : B} {s' : State} → bind o f ≡ ok b s' → Both o f b s'
both (ok a s) f e = record { a = a; s₁ = s; first = refl; second = e }
both (fails x s) f e = absurd (fails_not e)
both (no_room s) f e = absurd (no_room_not e)
both (no_rule s) f e = absurd (no_rule_not e)

-- ---- places

pub one_event : (e : Event) (s : State) → Noted e s (noted e s)
one_event e s = record { values = refl; bases = refl; ends = refl; unused = refl; log = refl }

pub record Checked (n : ℕ) (p : Datum) (w k : ℕ) (l : Location) (s : State) (l' : Location) (s' : State) : Type 0 where
  pub place : l ≡ l'
  pub state : noted (tested (check_of n p w k)) s ≡ s'
  pub passes : Passes n p w k s (noted (tested (check_of n p w k)) s)

pub checked_ok : (n : ℕ) (p : Datum) (w k : ℕ) (l : Location) (s : State) {l' : Location} {s' : State} → checked n p w k l s ≡ ok l' s' → Checked n p w k l s l' s'
checked_ok n p w k l s {l'} {s'} e = go (check_made n p w k l s) e
  where
    go : {o : Outcome Location} → CheckMade n p w k l s o → o ≡ ok l' s' → Checked n p w k l s l' s'
    go (check_passed inside) q = record { place = same_result q; state = same_state q; passes = record { inside = λ i less. omega (arith, inside (omega arith)); event = one_event _ s } }
    go (check_missed miss) q = absurd (fails_not q)

deref_comes : {n : ℕ} (v : Value) (s : State) {l : Location} {s' : State} → Both (value_at v s) (deref_step n) l s' → ComesBy s l s' (Deref n v)
unfolding deref_step
deref_comes {n} v s b =
    let c = checked_ok n b.a b.a.value 1 _ b.s₁ b.second in
    rw (← c.place, ← c.state)
    (deref_place (record { pointer = b.a; s₁ = b.s₁; child = b.first; access = refl; at = omega arith; check = c.passes }) refl refl)

field_comes : {n offset k : ℕ} (v : Value) (s : State) {l : Location} {s' : State} → Both (value_at v s) (field_step n offset k) l s'
    → ComesBy s l s' (Field n offset k v)
unfolding field_step
field_comes {n} {offset} {k} v s b =
    let c = checked_ok n b.a (b.a.value + offset) k _ b.s₁ b.second in
    rw (← c.place, ← c.state)
    (field_place (record { pointer = b.a; s₁ = b.s₁; child = b.first; access = refl; at = refl; check = c.passes }) refl refl)

-- Every place is come by as its tree says: a variable is named, and at a deref or a field the pointer logged is the child's value.
pub places_are_come_by : (p : Place) (s : State) (l : Location) (s' : State) → place_at p s ≡ ok l s' → ComesBy s l s' p
unfolding place_at
places_are_come_by (Variable n i) s l s' e = rw (← (same_result e), ← (same_state e)) (variable_place refl refl refl refl refl)
places_are_come_by (Deref n v) s l s' e = deref_comes v s (both (value_at v s) (deref_step n) e)
places_are_come_by (Field n offset k v) s l s' e = field_comes v s (both (value_at v s) (field_step n offset k) e)
places_are_come_by NoPlace s l s' e = absurd (no_rule_not e)

-- ---- values

word_read : (pointer : Bool) (s : State) (w : ℕ) → WordRead s w (contents pointer s w) pointer
word_read true s w = bounds_read refl refl refl
word_read false s w = value_read refl refl refl

read_gives : {n : ℕ} (pointer : Bool) (p : Place) (s : State) {d : Datum} {s' : State} → Both (place_at p s) (read_step pointer) d s'
    → Gives s d s' (Read n pointer p)
unfolding read_step
read_gives pointer p s b =
    let e = touched (touchable b.s₁ b.a.at) _ b.s₁ _ b.second in
    rw (← (same_result e), ← (same_state e))
    (read_value b.a b.s₁ b.first (word_read pointer b.s₁ b.a.at) (one_event _ b.s₁))

cast_state : (keeps : Bool) (x : Datum) (s : State) {d : Datum} {s' : State} → cast_step keeps x s ≡ ok d s' → s ≡ s'
cast_state true x s e = same_state e
cast_state false x s e = same_state e

-- "The new words are clear."
new_words_clear : (n : ℕ) (s : State) (w : ℕ) → s.unused ≤ w → w < s.unused + n → ClearWord w (with_block n s)
new_words_clear n s w from upto =
    record { value = zeroed_inside s.values s.unused n w from upto; base = zeroed_inside s.bases s.unused n w from upto; end = zeroed_inside s.ends s.unused n w from upto }

others_kept : (n : ℕ) (s : State) (w : ℕ) → (w < s.unused) ⊎ (s.unused + n ≤ w) → SameWord w s (with_block n s)
others_kept n s w out =
    record { value = sym (zeroed_outside s.values s.unused n w out); base = sym (zeroed_outside s.bases s.unused n w out); end = sym (zeroed_outside s.ends s.unused n w out) }

malloc_allocates : (x : Datum) (s : State) {d : Datum} {s' : State} → malloc_step x s ≡ ok d s' → Allocates x.value s d s'
unfolding malloc_step
malloc_allocates x s {d} {s'} e = go (eqb x.value 0) refl (leb (s.unused + x.value) (length s.values)) e
  where
    go : (none : Bool) → eqb x.value 0 ≡ none → (fits : Bool)
        → (if none then ok (unbounded 0) s else if fits then ok (block_pointer s.unused x.value) (with_block x.value s) else no_room s) ≡ ok d s'
        → Allocates x.value s d s'
    go true z fits q = no_words (eqb-true x.value 0 z) (sym (same_result q)) (sym (same_state q))
    go false z true q =
        rw (← (same_result q), ← (same_state q)) (new_block (omega (arith, eqb-false x.value 0 z)) refl refl refl (new_words_clear x.value s) (others_kept x.value s))
    go false z false q = absurd (no_room_not q)

list_moves : (l : Words) (to from k : ℕ) → Moves to from k l (moved l to from k)
list_moves l to from k = record { same_length = moved_length l to from k; there = λ i. moved_inside l to from k i; elsewhere = moved_outside l to from k }

move_copies : (n k : ℕ) (p q : Datum) (s s₁ s₂ : State) (a b : Location) {d : Datum} {s' : State} → pointed_step n k p s ≡ ok a s₁ → pointed_step n k q s₁ ≡ ok b s₂
    → move_step k a b s₂ ≡ ok d s' → Copies n k p q s d s'
unfolding move_step
move_copies n k p q s s₁ s₂ a b first second e =
    let to = checked_ok n p p.value k _ s first in
    let from = checked_ok n q q.value k _ s₁ second in
    let m = touched (all_below k _) _ s₂ _ e in
    rw (← (same_result m), ← (same_state m), ← from.place, ← to.place)
    (record {
      s₁ = s₁;
      to = rw to.state at to.passes;
      s₂ = s₂;
      from = rw from.state at from.passes;
      result = refl;
      values = list_moves s₂.values p.value q.value k;
      bases = list_moves s₂.bases p.value q.value k;
      ends = list_moves s₂.ends p.value q.value k;
      unused = refl;
      log = refl;
    })

copy_copies : (n k : ℕ) (p q : Datum) (s : State) {d : Datum} {s' : State} → copy_step n k p q s ≡ ok d s' → Copies n k p q s d s'
unfolding copy_step
copy_copies n k p q s e =
    let a = both (pointed_step n k p s) _ e in
    let b = both (pointed_step n k q a.s₁) (move_step k a.a) a.second in
    move_copies n k p q s a.s₁ b.s₁ a.a b.a a.first b.first b.second

-- Every value is come by as its tree says: a read has one event, that of its place, a block has one, a copy those of its checks and its words, and
-- nothing else has any.
pub values_have_their_events : (v : Value) (s : State) (d : Datum) (s' : State) → value_at v s ≡ ok d s' → Gives s d s' v
unfolding value_at
values_have_their_events (Number n x) s d s' e = number_value (sym (same_state e))
values_have_their_events (Sum n either step a b) s d s' e =
    let p = both (value_at a s) _ e in
    let x = both (value_at b p.s₁) _ p.second in
    sum_value p.a x.a p.s₁ p.first (in_state x.first (same_state x.second))
values_have_their_events (Read n pointer p) s d s' e = read_gives pointer p s (both (place_at p s) (read_step pointer) e)
values_have_their_events (Address n p) s d s' e =
    let b = both (place_at p s) _ e in
    address_value b.a (in_state b.first (same_state b.second))
values_have_their_events (Cast n keeps v) s d s' e =
    let b = both (value_at v s) (cast_step keeps) e in
    cast_value b.a (in_state b.first (cast_state keeps b.a b.s₁ b.second))
values_have_their_events (Malloc n v) s d s' e =
    let b = both (value_at v s) malloc_step e in
    malloc_value b.a b.s₁ b.first (malloc_allocates b.a b.s₁ b.second)
values_have_their_events (Copy n k a b) s d s' e =
    let p = both (value_at a s) _ e in
    let q = both (value_at b p.s₁) (copy_step n k p.a) p.second in
    copy_value p.a q.a q.s₁ (record { s₁ = p.s₁; first = p.first; second = q.first }) (copy_copies n k p.a q.a q.s₁ q.second)
values_have_their_events NoValue s d s' e = absurd (no_rule_not e)

-- ---- a command

word_stored : (pointer : Bool) (e : Event) (s : State) (w : ℕ) (x : Datum) → WordStored s w x (noted e (with_datum pointer w x s)) pointer
word_stored true e s w x = bounds_stored refl refl refl
word_stored false e s w x = value_stored refl refl refl

unused_kept : (pointer : Bool) (w : ℕ) (x : Datum) (s : State) → (with_datum pointer w x s).unused ≡ s.unused
unused_kept true w x s = refl
unused_kept false w x s = refl

pub log_kept : (pointer : Bool) (w : ℕ) (x : Datum) (s : State) → (with_datum pointer w x s).log ≡ s.log
log_kept true w x s = refl
log_kept false w x s = refl

-- A command that is done has worked out its place and then its value, and has written one word.
pub assigns_write_once : (pointer : Bool) (p : Place) (v : Value) (s s' : State) → assign pointer p v s ≡ ok tt s' → Assigns pointer p v s s'
unfolding assign assign_step
assigns_write_once pointer p v s s' e =
    let b = both (place_at p s) _ e in
    let c = both (value_at v b.s₁) (assign_step pointer b.a) b.second in
    let q = touched (touchable c.s₁ b.a.at) _ c.s₁ _ c.second in
    rw (← (same_state q))
    (record {
      l = b.a;
      s₁ = b.s₁;
      place = b.first;
      x = c.a;
      s₂ = c.s₁;
      value = c.first;
      memory = word_stored pointer (stored b.a.at b.a.access) c.s₁ b.a.at c.a;
      unused = unused_kept pointer b.a.at c.a c.s₁;
      log = ap (λ log. stored b.a.at b.a.access ∷ log) (log_kept pointer b.a.at c.a c.s₁);
    })
