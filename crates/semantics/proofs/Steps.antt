-- Each step keeps the invariant, and no step of a tree that makes sense is without a rule.
use Rattle.std.specs.Prelude.{if◌then◌else◌}
use Prim.Native.Nat.{ℕ, ◌+◌, ◌-◌, ◌≤◌, ◌<◌}
use mathlib.Core.Bool.{Bool, true, false}
use mathlib.Core.Path.{◌≡◌, refl, sym, ap, ◌∙◌}
use mathlib.Core.Logic.{inr}
use mathlib.Core.List.Memᴰ
use mathlib.Core.List.{List, ◌∷◌}
use native.Mathlib.Omega.{arith}
use native.Mathlib.Decide.{ℕ_discrete}
use borrow.Author.Tests.{lt-ltb, leb-true, eqb-false}
use lib.Dec.{leb, eqb, ltb}
use lib.ListN.{length, set, length-set}
use lib.Seq.{get_or-set_same, get_or-set_other}
use Rattle.semantics.specs.Words.{Words, word, moved}
use Rattle.semantics.specs.Syntax.{Place, Variable, Deref, Field, Value, Number, Sum, Read, Address, Cast, Malloc, Copy}
use Rattle.semantics.specs.Rules.{Datum, unbounded, block_pointer, Access, Location, Event, loaded, stored, allocated, tested, State, noted, with_values, Outcome, ok, no_room, check_of, words_left, checked, pointed, pointed_step, deref_step, field_step, touchable, contents, read_step, takes_right, bounds_from, cast_step, with_block, malloc_step, with_copy, move_step, copy_step, place_at, value_at, with_datum, assign_step, assign}
use Rattle.semantics.specs.Safety.{variable, block, Held, Permitted, by_name, by_pointer, Allowed, Sound, absent, held}
use Rattle.semantics.specs.Log.{Unwritten, SameWord}
use Rattle.semantics.proofs.Tests.{and_both, Lies, inside as among, outside, lies, words_are_left, left_inside, check_enough, CheckMade, check_passed, check_missed, check_made}
use Rattle.semantics.proofs.Lists.{zeroed_clear, all_true, moved_length, moved_inside, moved_outside}
use Rattle.semantics.proofs.Blocks.{NoBlock, loaded_no_block, stored_no_block, tested_no_block, AllChecks, Asks, one_check, one_load, one_store, one_block, each_older, each_has, each_load, each_store, each_allowed, beside, alloc, each_beside, load_allowed, store_allowed, alloc_allowed, test_allowed}
use Rattle.semantics.proofs.Places.{log_kept}
use Rattle.semantics.proofs.Invariant.{Inv, Within, Later, now, held_later, sound_later, permitted_used, DatumOk, LocationOk, permitted_later, location_later, Good, good_ok, good_fails, good_no_room, bind_good}

pub touchable_true : {vars len w : ℕ} {s : State} {a : Access} → Inv vars len s → Permitted vars s.log w a → touchable s w ≡ true
unfolding touchable
touchable_true {w = w} {s = s} inv h =
    let used = permitted_used inv h in
    and_both (ltb 0 w) (ltb w s.unused) (lt-ltb 0 w used.0) (lt-ltb w s.unused used.1)

-- ---- states: an event that is no block, a block, a datum stored

tail : {l : List Event} (e : Event) → Within l (e ∷ l)
tail e x h = Memᴰ.tail h

noted_later : {s : State} (e : Event) → Later s (noted e s)
noted_later e = record { more = tail e; kept = λ w h. record { value = refl; base = refl; end = refl } }

no_block : {vars len : ℕ} {s : State} (e : Event) → NoBlock e → Inv vars len s → Allowed vars (e ∷ s.log) → AllChecks Asks (e ∷ s.log) → Inv vars len (noted e s)
no_block e apart inv allowed asks =
    record {
      values_length = inv.values_length;
      bases_length = inv.bases_length;
      ends_length = inv.ends_length;
      low = inv.low;
      high = inv.high;
      blocks = beside apart inv.blocks;
      sound = λ w. sound_later (tail e) (inv.sound w);
      allowed = allowed;
      asks = asks;
      clear = inv.clear;
    }

-- The state after an allocation, but with every word as it was.
abbrev raised : ℕ → State → State
raised n s = record { values = s.values; bases = s.bases; ends = s.ends; unused = (with_block n s).unused; log = (with_block n s).log }

-- The words from U on are clear already. So a program need not clear them again when they are obtained.
pub block_clear : {vars len : ℕ} {s : State} (n : ℕ) → Inv vars len s → with_block n s ≡ raised n s
block_clear {s = s} n inv =
    rw (zeroed_clear s.values s.unused n (λ w h. (inv.clear w h).0), zeroed_clear s.bases s.unused n (λ w h. (inv.clear w h).1), zeroed_clear s.ends s.unused n (λ w h. (inv.clear w h).2))

pub block_inv : {vars len : ℕ} {s : State} (n : ℕ) → 0 < n → Inv vars len s → s.unused + n ≤ len → Inv vars len (with_block n s)
block_inv {vars} {len} {s} n some inv fits =
    rw (block_clear n inv)
    (record {
      values_length = inv.values_length;
      bases_length = inv.bases_length;
      ends_length = inv.ends_length;
      low = omega (arith, inv.low);
      high = fits;
      blocks = alloc some inv.blocks;
      sound = λ w. sound_later (tail (allocated s.unused n)) (inv.sound w);
      allowed = alloc_allowed inv.allowed;
      asks = one_block inv.asks;
      clear = λ w h. inv.clear w (omega arith);
    })

-- The words of a new block hold its bounds.
pub block_held : {vars : ℕ} (n : ℕ) (s : State) → 0 < n → Held vars (with_block n s).log s.unused (s.unused + n)
block_held n s some =
    record { s = s.unused; t = s.unused + n; region = block s.unused n (Memᴰ.head refl); from = omega arith; proper = omega arith; upto = omega arith }

-- A store at w, which is in use: the word's bounds are the datum's, every other word is as it was.
pub pointer_inv : {vars len : ℕ} {s : State} (w : ℕ) (x : Datum) → w < s.unused → Inv vars len s → DatumOk vars x s → Inv vars len (with_datum true w x s)
pointer_inv {vars} {len} {s} w x used inv good =
    record {
      values_length = length-set s.values w x.value ∙ inv.values_length;
      bases_length = length-set s.bases w x.base ∙ inv.bases_length;
      ends_length = length-set s.ends w x.end ∙ inv.ends_length;
      low = inv.low;
      high = inv.high;
      blocks = inv.blocks;
      sound = λ v. sound v (ℕ_discrete v w);
      allowed = inv.allowed;
      asks = inv.asks;
      clear = λ v h. (
        other s.values x.value v h ∙ (inv.clear v h).0,
        other s.bases x.base v h ∙ (inv.clear v h).1,
        other s.ends x.end v h ∙ (inv.clear v h).2,
      );
    }
  where
    sound : (v : ℕ) → Dec (v ≡ w) → Sound vars s.log (word (set s.bases w x.base) v) (word (set s.ends w x.end) v)
    sound v (yes e) =
        rw (e, get_or-set_same s.bases w x.base 0 (omega (arith, inv.bases_length, inv.high)), get_or-set_same s.ends w x.end 0 (omega (arith, inv.ends_length, inv.high)))
        good.sound
    sound v (no n) = rw (get_or-set_other s.bases w v x.base 0 n, get_or-set_other s.ends w v x.end 0 n) (inv.sound v)

    other : (l : Words) (y v : ℕ) → s.unused ≤ v → word (set l w y) v ≡ word l v
    other l y v h = get_or-set_other l w v y 0 (λ e. omega arith)

-- Values that are changed below U alone.
pub values_inv : {vars len : ℕ} {s : State} (vs : Words) → length vs ≡ length s.values → ((w : ℕ) → s.unused ≤ w → word vs w ≡ word s.values w) → Inv vars len s
    → Inv vars len (with_values vs s)
values_inv vs same above inv =
    record {
      values_length = same ∙ inv.values_length;
      bases_length = inv.bases_length;
      ends_length = inv.ends_length;
      low = inv.low;
      high = inv.high;
      blocks = inv.blocks;
      sound = inv.sound;
      allowed = inv.allowed;
      asks = inv.asks;
      clear = λ w h. (above w h ∙ (inv.clear w h).0, (inv.clear w h).1, (inv.clear w h).2);
    }

datum_inv : {vars len : ℕ} {s : State} (pointer : Bool) (w : ℕ) (x : Datum) → w < s.unused → Inv vars len s → DatumOk vars x s → Inv vars len (with_datum pointer w x s)
datum_inv true w x used inv good = pointer_inv w x used inv good
datum_inv {s = s} false w x used inv good =
    values_inv (set s.values w x.value) (length-set s.values w x.value) (λ v h. get_or-set_other s.values w v x.value 0 (λ e. omega arith)) inv

-- A store leaves a log that has it as written, and every other word as it was.
stored_later : {s : State} (pointer : Bool) (l : Location) (x : Datum) → Later s (noted (stored l.at l.access) (with_datum pointer l.at x s))
stored_later {s} pointer l x = record { more = rw (log_kept pointer l.at x s) (tail (stored l.at l.access)); kept = kept pointer }
  where
    elsewhere : (p : Words) (y w : ℕ) → (w ≡ l.at → ⊥) → word p w ≡ word (set p l.at y) w
    elsewhere p y w other = sym (get_or-set_other p l.at w y 0 other)

    kept : (b : Bool) (w : ℕ) → Unwritten w (stored l.at l.access ∷ (with_datum b l.at x s).log)
        → SameWord w s (noted (stored l.at l.access) (with_datum b l.at x s))
    kept true w h =
        let other : w ≡ l.at → ⊥ = λ e. h l.access (Memᴰ.head (ap (λ v. stored v l.access) e)) in
        record { value = elsewhere s.values x.value w other; base = elsewhere s.bases x.base w other; end = elsewhere s.ends x.end w other }
    kept false w h =
        let other : w ≡ l.at → ⊥ = λ e. h l.access (Memᴰ.head (ap (λ v. stored v l.access) e)) in
        record { value = elsewhere s.values x.value w other; base = refl; end = refl }

-- ---- places

-- A check of at least one word passes only where there are bounds, and then they are held.
sound_held : {vars b e : ℕ} {l : List Event} → Sound vars l b e → 0 < e → Held vars l b e
sound_held (absent p q) h = absurd (omega arith)
sound_held (held x) h = x

checked_good : {vars len : ℕ} {s : State} {P : Location → State → Type 0} (n : ℕ) (p : Datum) (w k : ℕ) (l : Location) → 1 ≤ k → Inv vars len s → DatumOk vars p s
    → (p.base ≤ w → w + k ≤ p.end → Held vars (noted (tested (check_of n p w k)) s).log p.base p.end → P l (noted (tested (check_of n p w k)) s))
    → Good vars len s P (checked n p w k l s)
checked_good {vars} {len} {s} {P} n p w k l some inv good found = go (check_made n p w k l s)
  where
    e : Event
    e = tested (check_of n p w k)

    sound : Sound vars (noted e s).log p.base p.end
    sound = sound_later (tail e) good.sound

    logged : Inv vars len (noted e s)
    logged = no_block e (tested_no_block _) inv (test_allowed inv.allowed) (one_check some inv.asks)

    go : {o : Outcome Location} → CheckMade n p w k l s o → Good vars len s P o
    go (check_passed inside) =
        let h = inside some in
        good_ok logged (noted_later e) (found h.0 h.1 (sound_held sound (omega arith)))
    go (check_missed miss) = good_fails logged (noted_later e) sound

deref_good : {vars len : ℕ} (n : ℕ) (p : Datum) (s : State) → Inv vars len s → DatumOk vars p s → Good vars len s (LocationOk vars) (deref_step n p s)
unfolding deref_step
deref_good n p s inv good =
    checked_good n p p.value 1 _ (omega arith) inv good (λ from upto h. record { permitted = by_pointer from upto h; bounds = h })

field_good : {vars len : ℕ} (n offset k : ℕ) (p : Datum) (s : State) → 0 < k → Inv vars len s → DatumOk vars p s
    → Good vars len s (LocationOk vars) (field_step n offset k p s)
unfolding field_step
field_good n offset k p s some inv good =
    checked_good n p (p.value + offset) k _ some inv good
    (λ from upto h.
    record {
      permitted = by_pointer from (omega arith) h;
      bounds = record { s = h.s; t = h.t; region = h.region; from = omega (arith, h.from); proper = omega arith; upto = omega (arith, h.upto) };
    })

-- ---- values

read_good : {vars len : ℕ} (pointer : Bool) (l : Location) (s : State) → Inv vars len s → LocationOk vars l s
    → Good vars len s (DatumOk vars) (read_step pointer l s)
unfolding read_step
read_good {vars} {len} pointer l s inv good =
    rw (touchable_true inv good.permitted)
    (good_ok (no_block (loaded l.at l.access) (loaded_no_block l.at l.access) inv (load_allowed good.permitted inv.allowed) (one_load inv.asks)) (noted_later (loaded l.at l.access)) (kept pointer))
  where
    kept : (b : Bool) → DatumOk vars (contents b s l.at) (noted (loaded l.at l.access) s)
    kept true = record { sound = sound_later (tail (loaded l.at l.access)) (inv.sound l.at) }
    kept false = record { sound = absent refl refl }

-- A sum has its bounds from one of its operands, whatever is asked of them.
sum_sound : {vars : ℕ} {log : List Event} (either : Bool) (p x : Datum) → Sound vars log p.base p.end → Sound vars log x.base x.end
    → Sound vars log (bounds_from either p x).base (bounds_from either p x).end
sum_sound {vars} {log} either p x left right = go (takes_right either p x)
  where
    go : (b : Bool) → Sound vars log (if b then x else p).base (if b then x else p).end
    go true = right
    go false = left

cast_good : {vars len : ℕ} (keeps : Bool) (p : Datum) (s : State) → Inv vars len s → DatumOk vars p s
    → Good vars len s (DatumOk vars) (cast_step keeps p s)
cast_good true p s inv good = good_ok inv now good
cast_good false p s inv good = good_ok inv now (record { sound = absent refl refl })

malloc_good : {vars len : ℕ} (x : Datum) (s : State) → Inv vars len s → Good vars len s (DatumOk vars) (malloc_step x s)
unfolding malloc_step
malloc_good {vars} {len} x s inv = go (eqb x.value 0) refl (leb (s.unused + x.value) (length s.values)) refl
  where
    go : (none : Bool) → eqb x.value 0 ≡ none → (fits : Bool) → leb (s.unused + x.value) (length s.values) ≡ fits
        → Good vars len s (DatumOk vars)
        (if none then ok (unbounded 0) s else
        if fits then ok (block_pointer s.unused x.value) (with_block x.value s) else
        no_room s)
    go true e fits f = good_ok inv now (record { sound = absent refl refl })
    go false e true f =
        let some : 0 < x.value = omega (arith, eqb-false x.value 0 e) in
        good_ok (block_inv x.value some inv (omega (arith, leb-true (s.unused + x.value) (length s.values) f, inv.values_length)))
        (rw (block_clear x.value inv) (record { more = tail (allocated s.unused x.value); kept = λ w h. record { value = refl; base = refl; end = refl } }))
        (record { sound = held (block_held x.value s some) })
    go false e false f = good_no_room inv now

-- ---- a copy

-- The log before a copy is kept.
copy_older : (k : ℕ) (a b : Location) (s : State) → Within s.log (with_copy k a b s).log
copy_older k a b s e h = each_older (λ i. stored (a.at + i) a.access) k e (each_older (λ i. loaded (b.at + i) b.access) k e h)

-- A place from which on k words may be touched.
pub record WordsOk (vars k : ℕ) (l : Location) (s : State) : Type 0 where
  pub each : (i : ℕ) → i < k → Permitted vars s.log (l.at + i) l.access

pub words_later : {vars k : ℕ} {l : Location} {s s' : State} → Within s.log s'.log → WordsOk vars k l s → WordsOk vars k l s'
words_later more h = record { each = λ i less. permitted_later more (h.each i less) }

held_words : {vars k : ℕ} {p : Datum} {s : State} → Held vars s.log p.base p.end → p.base ≤ p.value → p.value + k ≤ p.end → WordsOk vars k (pointed p) s
held_words {p = p} h from upto = record { each = λ i less. by_pointer {p = p} (omega arith) (omega arith) h }

pub pointed_good : {vars len : ℕ} (n k : ℕ) (p : Datum) (s : State) → 1 ≤ k → Inv vars len s → DatumOk vars p s → Good vars len s (WordsOk vars k) (pointed_step n k p s)
pointed_good n k p s some inv good =
    checked_good n p p.value k _ some inv good (λ from upto h. held_words h from upto)

-- The last of the words is in use, and so are all.
words_used : {vars len k : ℕ} {l : Location} {s : State} → 1 ≤ k → Inv vars len s → WordsOk vars k l s → l.at + k ≤ s.unused
words_used {k = k} {l = l} some inv h =
    let less : k - 1 < k = omega arith in
    omega (arith, permitted_used inv (h.each (k - 1) less))

-- The words keep their bounds where they go, all other words are as they were, and none at or above U is written.
copy_inv : {vars len k : ℕ} {a b : Location} {s : State} → 1 ≤ k → Inv vars len s → WordsOk vars k a s → WordsOk vars k b s → Inv vars len (with_copy k a b s)
copy_inv {vars} {len} {k} {a} {b} {s} some inv to from =
    let to_used = words_used some inv to in
    record {
      values_length = moved_length s.values a.at b.at k ∙ inv.values_length;
      bases_length = moved_length s.bases a.at b.at k ∙ inv.bases_length;
      ends_length = moved_length s.ends a.at b.at k ∙ inv.ends_length;
      low = inv.low;
      high = inv.high;
      blocks = each_beside stores k (λ i. stored_no_block _ _) (each_beside loads k (λ i. loaded_no_block _ _) inv.blocks);
      sound = λ w. sound_later (copy_older k a b s) (sound w (lies a.at k w));
      allowed =
          each_allowed stores k (λ i less. store_allowed (permitted_later (λ e h. each_older stores i e (each_older loads k e h)) (to.each i less)))
          (each_allowed loads k (λ i less. load_allowed (permitted_later (each_older loads i) (from.each i less))) inv.allowed);
      asks = each_store k (λ i. a.at + i) a.access (each_load k (λ i. b.at + i) b.access inv.asks);
      clear = λ w h. (
        moved_outside s.values a.at b.at k w (inr (omega arith)) ∙ (inv.clear w h).0,
        moved_outside s.bases a.at b.at k w (inr (omega arith)) ∙ (inv.clear w h).1,
        moved_outside s.ends a.at b.at k w (inr (omega arith)) ∙ (inv.clear w h).2,
      );
    }
  where
    loads : ℕ → Event
    loads i = loaded (b.at + i) b.access

    stores : ℕ → Event
    stores i = stored (a.at + i) a.access

    inside : (l : Words) → length l ≡ len → (i : ℕ) → i < k → word (moved l a.at b.at k) (a.at + i) ≡ word l (b.at + i)
    inside l same i less =
        let used = words_used some inv to in
        moved_inside l a.at b.at k i less (omega (arith, inv.high))

    sound : (w : ℕ) → Lies a.at k w → Sound vars s.log (word (moved s.bases a.at b.at k) w) (word (moved s.ends a.at b.at k) w)
    sound w (among i less e) =
        rw (e, inside s.bases inv.bases_length i less, inside s.ends inv.ends_length i less) (inv.sound (b.at + i))
    sound w (outside out) = rw (moved_outside s.bases a.at b.at k w out, moved_outside s.ends a.at b.at k w out) (inv.sound w)

copy_later : (k : ℕ) (a b : Location) (s : State) → Later s (with_copy k a b s)
copy_later k a b s = record { more = copy_older k a b s; kept = λ w h. kept w h (lies a.at k w) }
  where
    kept : (w : ℕ) → Unwritten w (with_copy k a b s).log → Lies a.at k w → SameWord w s (with_copy k a b s)
    kept w h (among i less e) = absurd (h a.access (rw e (each_has (λ j. stored (a.at + j) a.access) k i _ less)))
    kept w h (outside out) =
        record {
          value = sym (moved_outside s.values a.at b.at k w out);
          base = sym (moved_outside s.bases a.at b.at k w out);
          end = sym (moved_outside s.ends a.at b.at k w out);
        }

-- Words that may be read and assigned move.
pub move_done : {vars len k : ℕ} {a b : Location} {s : State} → Inv vars len s → WordsOk vars k a s → WordsOk vars k b s
    → move_step k a b s ≡ ok (unbounded k) (with_copy k a b s)
unfolding move_step
move_done {k = k} inv to from =
    rw (all_true k _ (λ i less. and_both _ _ (touchable_true inv (from.each i less)) (touchable_true inv (to.each i less))))

copy_good : {vars len : ℕ} (n k : ℕ) (p q : Datum) (s : State) → 1 ≤ k → Inv vars len s → DatumOk vars p s → DatumOk vars q s
    → Good vars len s (DatumOk vars) (copy_step n k p q s)
unfolding copy_step move_step
copy_good {vars} n k p q s some inv to from =
    bind_good (pointed_good n k p s some inv to)
    (λ a s₁ inv₁ more₁ a_ok.
    bind_good (pointed_good n k q s₁ some inv₁ (record { sound = sound_later more₁.more from.sound }))
    (λ b s₂ inv₂ more₂ b_ok.
    let there = words_later more₂.more a_ok in
    rw (move_done inv₂ there b_ok)
    (good_ok (copy_inv some inv₂ there b_ok) (copy_later k a b s₂) (record { sound = absent refl refl }))))

-- Where enough words are left by both pointers, the copy is made.
pub copy_done : {vars len : ℕ} (n k : ℕ) (p q : Datum) (s : State) → 1 ≤ k → Inv vars len s → DatumOk vars p s → DatumOk vars q s
    → k ≤ words_left p.base p.end p.value → k ≤ words_left q.base q.end q.value
    → copy_step n k p q s ≡ ok (unbounded k) (with_copy k (pointed p) (pointed q) (noted (tested (check_of n q q.value k)) (noted (tested (check_of n p p.value k)) s)))
unfolding copy_step
copy_done {vars} {len} n k p q s some inv to from p_enough q_enough =
    rw (check_enough n p p.value k (pointed p) s p_enough, check_enough n q q.value k (pointed q) (noted (tested (check_of n p p.value k)) s) q_enough)
    (move_done (both_noted (both_noted inv)) (reached p to p_enough) (reached q from q_enough))
  where
    both_noted : {x : Datum} {st : State} → Inv vars len st → Inv vars len (noted (tested (check_of n x x.value k)) st)
    both_noted inv' = no_block _ (tested_no_block _) inv' (test_allowed inv'.allowed) (one_check some inv'.asks)

    reached : (x : Datum) → DatumOk vars x s → k ≤ words_left x.base x.end x.value
        → WordsOk vars k (pointed x) (noted (tested (check_of n q q.value k)) (noted (tested (check_of n p p.value k)) s))
    reached x good enough =
        let inside = left_inside (words_are_left x.base x.end x.value) some enough in
        held_words (held_later (λ e h. Memᴰ.tail (Memᴰ.tail h)) (sound_held good.sound (omega (arith, inside)))) inside.0 inside.1

-- ---- trees

-- What the rules need of a tree: variables below their number, fields and records of at least one word, and no part that makes no sense.
mutual
  pub data PlaceOk (vars : ℕ) : Place → Type 0 where
    variable_ok : {n i : ℕ} → i < vars → PlaceOk vars (Variable n i)
    deref_ok : {n : ℕ} {v : Value} → ValueOk vars v → PlaceOk vars (Deref n v)
    field_ok : {n offset k : ℕ} {v : Value} → 0 < k → ValueOk vars v → PlaceOk vars (Field n offset k v)

  pub data ValueOk (vars : ℕ) : Value → Type 0 where
    number_ok : {n x : ℕ} → ValueOk vars (Number n x)
    sum_ok : {n : ℕ} {either : Bool} {step : ℕ} {a b : Value} → ValueOk vars a → ValueOk vars b → ValueOk vars (Sum n either step a b)
    read_ok : {n : ℕ} {bounds : Bool} {p : Place} → PlaceOk vars p → ValueOk vars (Read n bounds p)
    address_ok : {n : ℕ} {p : Place} → PlaceOk vars p → ValueOk vars (Address n p)
    cast_ok : {n : ℕ} {keeps : Bool} {v : Value} → ValueOk vars v → ValueOk vars (Cast n keeps v)
    malloc_ok : {n : ℕ} {v : Value} → ValueOk vars v → ValueOk vars (Malloc n v)
    copy_ok : {n k : ℕ} {a b : Value} → 0 < k → ValueOk vars a → ValueOk vars b → ValueOk vars (Copy n k a b)

own_bounds : (vars i : ℕ) (l : List Event) → i < vars → Held vars l (1 + i) (1 + i + 1)
own_bounds vars i l h =
    record { s = 1 + i; t = 1 + i + 1; region = variable i h; from = omega arith; proper = omega arith; upto = omega arith }

mutual
  unfolding place_at

  pub place_good : {vars len : ℕ} {p : Place} → PlaceOk vars p → (s : State) → Inv vars len s → Good vars len s (LocationOk vars) (place_at p s)
  place_good {vars} (variable_ok {i = i} h) s inv =
      good_ok inv now (record { permitted = by_name h refl; bounds = own_bounds vars i s.log h })
  place_good (deref_ok {n = n} v) s inv = bind_good (value_good v s inv) (λ p s' inv' more good. deref_good n p s' inv' good)
  place_good (field_ok {n = n} {offset = o} {k = k} some v) s inv =
      bind_good (value_good v s inv) (λ p s' inv' more good. field_good n o k p s' some inv' good)

  pub value_good : {vars len : ℕ} {v : Value} → ValueOk vars v → (s : State) → Inv vars len s → Good vars len s (DatumOk vars) (value_at v s)
  value_good number_ok s inv = good_ok inv now (record { sound = absent refl refl })
  value_good (sum_ok {either = either} a b) s inv =
      bind_good (value_good a s inv)
      (λ p s' inv' more good.
      bind_good (value_good b s' inv')
      (λ x s'' inv'' more' good'. good_ok inv'' now (record { sound = sum_sound either p x (sound_later more'.more good.sound) good'.sound })))
  value_good (read_ok {bounds = b} p) s inv = bind_good (place_good p s inv) (λ l s' inv' more good. read_good b l s' inv' good)
  value_good (address_ok p) s inv =
      bind_good (place_good p s inv) (λ l s' inv' more good. good_ok inv' now (record { sound = held good.bounds }))
  value_good (cast_ok {keeps = k} v) s inv = bind_good (value_good v s inv) (λ p s' inv' more good. cast_good k p s' inv' good)
  value_good (malloc_ok v) s inv = bind_good (value_good v s inv) (λ x s' inv' more good. malloc_good x s' inv')
  value_good (copy_ok {n = n} {k = k} some a b) s inv =
      bind_good (value_good a s inv)
      (λ p s' inv' more good.
      bind_good (value_good b s' inv')
      (λ q s'' inv'' more' good'. copy_good n k p q s'' some inv'' (record { sound = sound_later more'.more good.sound }) good'))

-- ---- a command

pub record Any (x : Unit {0}) (s : State) : Type 0 where

assign_step_good : {vars len : ℕ} (pointer : Bool) (l : Location) (x : Datum) (s : State) → Inv vars len s → LocationOk vars l s → DatumOk vars x s
    → Good vars len s Any (assign_step pointer l x s)
unfolding assign_step
assign_step_good {vars} pointer l x s inv place value =
    let used = permitted_used inv place.permitted in
    let e : (with_datum pointer l.at x s).log ≡ s.log = log_kept pointer l.at x s in
    rw (touchable_true inv place.permitted)
    (good_ok
    (no_block (stored l.at l.access) (stored_no_block l.at l.access) (datum_inv pointer l.at x used.1 inv value)
    (rw e (store_allowed place.permitted inv.allowed)) (rw e (one_store inv.asks)))
    (stored_later pointer l x)
    (record {}))

pub assign_good : {vars len : ℕ} (pointer : Bool) {p : Place} {v : Value} → PlaceOk vars p → ValueOk vars v → (s : State) → Inv vars len s
    → Good vars len s Any (assign pointer p v s)
unfolding assign
assign_good pointer p v s inv =
    bind_good (place_good p s inv)
    (λ l s' inv' more place.
    bind_good (value_good v s' inv')
    (λ x s'' inv'' more' value. assign_step_good pointer l x s'' inv'' (location_later more'.more place) value))
