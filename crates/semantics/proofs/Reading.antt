-- Words that the log does not have as read do not sway a run. Two runs begin in states that are alike in every word read: step by step both
-- have the same outcome, the same log, and the same in every word in which they began alike.
use Rattle.std.specs.Prelude.{if◌then◌else◌}
use Prim.Native.Nat.{ℕ, zero, suc, ◌+◌, ◌≤◌, ◌<◌}
use mathlib.Core.Bool.{Bool, true, false, ◌&&◌}
use mathlib.Core.Path.{◌≡◌, refl, sym, ap, ap₂, ◌∙◌}
use mathlib.Core.Logic.{◌⊎◌, inl, inr, ⊎_elim}
use mathlib.Core.List.Memᴰ
use mathlib.Core.List.{List, [], ◌∷◌, Memᴰ}
use native.Mathlib.Omega.{arith}
use native.Mathlib.Decide.{ℕ_discrete}
use native.Mathlib.Nat.{add-zero}
use lib.Dec.{leb, eqb}
use lib.ListN.{length, replicate, set, length-set}
use lib.Seq.{sets, get_or-set_other}
use Rattle.semantics.specs.Words.{Words, word, zeroed, words_from, moved, all_below}
use Rattle.semantics.specs.Registers.{register_count, register_variable, register_length, register_words}
use Rattle.semantics.specs.Check.{command_place, command_value}
use Rattle.semantics.specs.Syntax.{Place, Variable, Deref, Field, NoPlace, Value, Number, Sum, Read, Address, Cast, Malloc, Copy, NoValue, place_of, value_of}
use Rattle.semantics.specs.Rules.{Datum, unbounded, block_pointer, Access, Location, variable_location, BoundsCheck, Event, loaded, stored, State, noted, Outcome, ok, fails, no_room, no_rule, bind, enough_left, checked, deref_step, field_step, touchable, contents, read_step, address_step, sum_step, cast_step, with_block, malloc_step, each_noted, with_copy, move_step, copy_step, place_at, value_at, with_datum, assign_step, assign}
use Rattle.semantics.specs.Run.{cleared, with_register, registers_below, begin, command, Ending, done, abort, out_of_memory, stuck, Run, after_command, then_command, commands_below}
use Rattle.semantics.specs.Log.{SameWord, Unwritten, Alike, EndsAlike}
use Rattle.semantics.proofs.Blocks.{stored_loaded, stored_allocated, stored_tested, each_older, each_has, each_cases}
use Rattle.semantics.proofs.Tests.{lt_or_le}
use Rattle.semantics.proofs.Lists.{from_length}
use Rattle.semantics.proofs.Invariant.{Within}
use Rattle.semantics.proofs.Places.{log_kept}

-- ---- lists

-- Two lists of one length that hold the same in every word of which P holds.
record Agree (P : ℕ → Type 0) (l m : Words) : Type 0 where
  same_length : length l ≡ length m
  same : (w : ℕ) → P w → word l w ≡ word m w

-- A word that is stored into holds what was stored, or is past the end of both lists.
set_here : (l m : Words) (w x : ℕ) → length l ≡ length m → word (set l w x) w ≡ word (set m w x) w
set_here [] [] w x e = refl
set_here [] (z ∷ m) w x e = absurd (omega arith)
set_here (y ∷ l) [] w x e = absurd (omega arith)
set_here (y ∷ l) (z ∷ m) zero x e = refl
set_here (y ∷ l) (z ∷ m) (suc w) x e = set_here l m w x (omega arith)

-- One value stored into both: they then agree there too.
agree_set : {P Q : ℕ → Type 0} {l m : Words} (v x : ℕ) → ((w : ℕ) → (w ≡ v → ⊥) → Q w → P w) → Agree P l m → Agree Q (set l v x) (set m v x)
agree_set {P} {Q} {l} {m} v x elsewhere h =
    record { same_length = omega (arith, length-set l v x, length-set m v x, h.same_length); same = λ w q. go w q (ℕ_discrete w v) }
  where
    go : (w : ℕ) → Q w → Dec (w ≡ v) → word (set l v x) w ≡ word (set m v x) w
    go w q (yes e) = rw e (set_here l m v x h.same_length)
    go w q (no n) = get_or-set_other l v w x 0 n ∙ h.same w (elsewhere w n q) ∙ sym (get_or-set_other m v w x 0 n)

agree_weaker : {P Q : ℕ → Type 0} {l m : Words} → ((w : ℕ) → Q w → P w) → Agree P l m → Agree Q l m
agree_weaker f h = record { same_length = h.same_length; same = λ w q. h.same w (f w q) }

-- The same for several values, from index i on.
abbrev Outside : ℕ → ℕ → ℕ → Type 0
Outside i n w = (w < i) ⊎ (i + n ≤ w)

agree_sets : {P Q : ℕ → Type 0} {l m : Words} (i : ℕ) (xs : Words) → ((w : ℕ) → Outside i (length xs) w → Q w → P w) → Agree P l m → Agree Q (sets l i xs) (sets m i xs)
agree_sets {P} {Q} i [] elsewhere h = agree_weaker (λ w. elsewhere w (either w)) h
  where
    either : (w : ℕ) → Outside i 0 w
    either w = ⊎_elim {C = Outside i 0 w} inl (λ k. inr (omega arith)) (lt_or_le w i)
agree_sets {P} {Q} i (x ∷ xs) elsewhere h = agree_sets {P = λ w. (w ≡ i) ⊎ P w} (suc i) xs further (agree_set i x not_here h)
  where
    not_here : (w : ℕ) → (w ≡ i → ⊥) → (w ≡ i) ⊎ P w → P w
    not_here w n (inl e) = absurd (n e)
    not_here w n (inr p) = p

    go : (w : ℕ) → Dec (w ≡ i) → Outside (suc i) (length xs) w → Q w → (w ≡ i) ⊎ P w
    go w (yes e) out q = inl e
    go w (no n) (inl k) q = inr (elsewhere w (inl (omega arith)) q)
    go w (no n) (inr k) q = inr (elsewhere w (inr (omega arith)) q)

    further : (w : ℕ) → Outside (suc i) (length xs) w → Q w → (w ≡ i) ⊎ P w
    further w = go w (ℕ_discrete w i)

agree_zeroed : {P : ℕ → Type 0} {l m : Words} {u u' : ℕ} (n : ℕ) → u ≡ u' → Agree P l m → Agree P (zeroed l u n) (zeroed m u' n)
unfolding zeroed
agree_zeroed {u = u} n e h = rw (← e) (agree_sets u (replicate n 0) (λ w out p. p) h)

-- Words that agree where they come from agree where they go.
same_from : {P : ℕ → Type 0} {l m : Words} (from n : ℕ) → ((i : ℕ) → i < n → P (from + i)) → Agree P l m → words_from l from n ≡ words_from m from n
unfolding words_from
same_from from zero known h = refl
same_from {P} {l} {m} from (suc n) known h =
    ap₂ (λ x xs. x ∷ xs) (h.same from (rw (add-zero from) at (known 0 (omega arith))))
    (same_from (suc from) n (λ i less. (let at : from + suc i ≡ suc from + i = omega arith in rw at at (known (suc i) (omega arith)))) h)

agree_moved : {P Q : ℕ → Type 0} {l m : Words} (to from n : ℕ) → ((i : ℕ) → i < n → P (from + i)) → ((w : ℕ) → Outside to n w → Q w → P w) → Agree P l m
    → Agree Q (moved l to from n) (moved m to from n)
unfolding moved
agree_moved {P} {Q} {l} {m} to from n known elsewhere h =
    rw (← (same_from from n known h)) (agree_sets to (words_from l from n) (λ w out. elsewhere w (rw (from_length l from n) at out)) h)

-- One answer for every number, one for all.
same_below : (n : ℕ) {p q : ℕ → Bool} → ((i : ℕ) → p i ≡ q i) → all_below n p ≡ all_below n q
unfolding all_below
same_below zero h = refl
same_below (suc n) h = ap₂ (λ x y. x && y) (same_below n h) (h n)

-- ---- events

stored_where : {w v : ℕ} {a b : Access} → stored w a ≡ stored v b → w ≡ v
stored_where e = cc

-- ---- outcomes

log_of : {A : Type 0} → Outcome A → List Event
log_of (ok a s) = s.log
log_of (fails x s) = s.log
log_of (no_room s) = s.log
log_of (no_rule s) = s.log

bind_grows : {A B : Type 0} (o : Outcome A) (f : A → State → Outcome B) → ((a : A) (s : State) → Within s.log (log_of (f a s)))
    → Within (log_of o) (log_of (bind o f))
unfolding log_of
bind_grows (ok a s) f k = k a s
bind_grows (fails x s) f k = λ e h. h
bind_grows (no_room s) f k = λ e h. h
bind_grows (no_rule s) f k = λ e h. h

after_log : (c : ℕ) (o : Outcome (Unit {0})) → (after_command c o).state.log ≡ log_of o
unfolding log_of
after_log c (ok x s) = refl
after_log c (fails x s) = refl
after_log c (no_room s) = refl
after_log c (no_rule s) = refl

-- Two first states, and a log whose words read are alike in them.
module _ (s₀ s₀' : State) (final : List Event) (read : (w : ℕ) (a : Access) → Memᴰ (loaded w a) final → SameWord w s₀ s₀') where
  -- The words whose values are one: those that were so at first, and those written.
  data Known (log : List Event) (w : ℕ) : Type 0 where
    at_first : SameWord w s₀ s₀' → Known log w
    written : {a : Access} → Memᴰ (stored w a) log → Known log w

  record Twin (s s' : State) : Type 0 where
    unused : s.unused ≡ s'.unused
    same_log : s.log ≡ s'.log
    values : Agree (Known s.log) s.values s'.values
    bases : Agree (λ w. SameWord w s₀ s₀') s.bases s'.bases
    ends : Agree (λ w. SameWord w s₀ s₀') s.ends s'.ends

  -- The same outcome, with states that are twins.
  data Twins {A : Type 0} : Outcome A → Outcome A → Type 0 where
    twin_ok : {a : A} {s s' : State} → Twin s s' → Twins (ok a s) (ok a s')
    twin_fails : {x : BoundsCheck} {s s' : State} → Twin s s' → Twins (fails x s) (fails x s')
    twin_no_room : {s s' : State} → Twin s s' → Twins (no_room s) (no_room s')
    twin_no_rule : {s s' : State} → Twin s s' → Twins (no_rule s) (no_rule s')

  -- A step that keeps every event, and takes twins to twins if the final log has all its events.
  record Steady {A : Type 0} (f : State → Outcome A) : Type 0 where
    grows : (s : State) → Within s.log (log_of (f s))
    twins : (s s' : State) → Twin s s' → Within (log_of (f s)) final → Twins (f s) (f s')

  -- ---- how steps are put together

  bind_twins : {A B : Type 0} {o o' : Outcome A} {f : A → State → Outcome B} → Twins o o' → ((a : A) → Steady (f a)) → Within (log_of (bind o f)) final
      → Twins (bind o f) (bind o' f)
  bind_twins (twin_ok t) k h = (k _).twins _ _ t h
  bind_twins (twin_fails t) k h = twin_fails t
  bind_twins (twin_no_room t) k h = twin_no_room t
  bind_twins (twin_no_rule t) k h = twin_no_rule t

  bound : {A B : Type 0} {m : State → Outcome A} {f : A → State → Outcome B} → Steady m → ((a : A) → Steady (f a)) → Steady (λ s. bind (m s) f)
  bound {m = m} {f = f} h k =
      record {
        grows = λ s e i. bind_grows (m s) f (λ a. (k a).grows) e (h.grows s e i);
        twins = λ s s' t inside. bind_twins (h.twins s s' t (λ e i. inside e (bind_grows (m s) f (λ a. (k a).grows) e i))) k inside;
      }

  choice : {A : Type 0} {f g : State → Outcome A} (b : State → Bool) → ((s s' : State) → Twin s s' → b s ≡ b s') → Steady f → Steady g
      → Steady (λ s. if b s then f s else g s)
  choice {A} {f} {g} b same yes_steady no_steady =
      record { grows = λ s. grows (b s) s; twins = λ s s' t. rw (← (same s s' t)) (twins (b s) s s' t) }
    where
      grows : (c : Bool) (s : State) → Within s.log (log_of (if c then f s else g s))
      grows true = yes_steady.grows
      grows false = no_steady.grows

      twins : (c : Bool) (s s' : State) → Twin s s' → Within (log_of (if c then f s else g s)) final → Twins (if c then f s else g s) (if c then f s' else g s')
      twins true = yes_steady.twins
      twins false = no_steady.twins

  -- A result that is the same for twins, though it may be of the state.
  answer : {A : Type 0} (f : State → A) → ((s s' : State) → Twin s s' → f s ≡ f s') → Steady (λ s. ok (f s) s)
  unfolding log_of
  answer f same = record { grows = λ s e h. h; twins = λ s s' t inside. rw (← (same s s' t)) (twin_ok t) }

  given : {A : Type 0} (a : A) → Steady (ok a)
  given a = answer (λ s. a) (λ s s' t. refl)

  failing : {A : Type 0} (x : BoundsCheck) → Steady {A = A} (fails x)
  unfolding log_of
  failing x = record { grows = λ s e h. h; twins = λ s s' t inside. twin_fails t }

  roomless : {A : Type 0} → Steady {A = A} no_room
  unfolding log_of
  roomless = record { grows = λ s e h. h; twins = λ s s' t inside. twin_no_room t }

  ruleless : {A : Type 0} → Steady {A = A} no_rule
  unfolding log_of
  ruleless = record { grows = λ s e h. h; twins = λ s s' t inside. twin_no_rule t }

  -- ---- an event that is no store

  -- An event that is no store leaves the words known as they were.
  known_before : {e : Event} {log : List Event} → ((v : ℕ) (a : Access) → stored v a ≡ e → ⊥) → (w : ℕ) → Known (e ∷ log) w → Known log w
  known_before other w (at_first h) = at_first h
  known_before {log = log} other w (written {a} m) = ⊎_elim {C = Known log w} (λ q. absurd (other w a q)) (λ k. written k) (Memᴰ.cases_cons m)

  noted_twin : (e : Event) → ((v : ℕ) (a : Access) → stored v a ≡ e → ⊥) → (s s' : State) → Twin s s' → Twin (noted e s) (noted e s')
  noted_twin e other s s' t =
      record {
        unused = t.unused;
        same_log = ap (λ log. e ∷ log) t.same_log;
        values = agree_weaker (known_before other) t.values;
        bases = t.bases;
        ends = t.ends;
      }

  after_event : {A : Type 0} {f : State → Outcome A} (e : Event) → ((v : ℕ) (a : Access) → stored v a ≡ e → ⊥) → Steady f → Steady (λ s. f (noted e s))
  after_event e other h =
      record { grows = λ s x m. h.grows (noted e s) x (Memᴰ.tail m); twins = λ s s' t inside. h.twins (noted e s) (noted e s') (noted_twin e other s s' t) inside }

  -- ---- places

  checked_steady : (n : ℕ) (p : Datum) (w k : ℕ) (l : Location) → Steady (checked n p w k l)
  unfolding checked
  checked_steady n p w k l =
      choice (λ s. enough_left p w k) (λ s s' t. refl) (after_event _ (λ v a. stored_tested) (given l)) (after_event _ (λ v a. stored_tested) (failing _))

  deref_steady : (n : ℕ) (p : Datum) → Steady (deref_step n p)
  unfolding deref_step
  deref_steady n p = checked_steady n p p.value 1 _

  field_steady : (n offset k : ℕ) (p : Datum) → Steady (field_step n offset k p)
  unfolding field_step
  field_steady n offset k p = checked_steady n p (p.value + offset) k _

  same_touchable : (w : ℕ) (s s' : State) → Twin s s' → touchable s w ≡ touchable s' w
  unfolding touchable
  same_touchable w s s' t = rw t.unused refl

  -- ---- values

  -- A word read is logged, so it is alike.
  same_contents : (pointer : Bool) (w : ℕ) (s s' : State) → Twin s s' → SameWord w s₀ s₀' → contents pointer s w ≡ contents pointer s' w
  same_contents true w s s' t h = rw (t.values.same w (at_first h), t.bases.same w h, t.ends.same w h) refl
  same_contents false w s s' t h = rw (t.values.same w (at_first h)) refl

  load_steady : (pointer : Bool) (w : ℕ) (a : Access) → Steady (λ s. ok (contents pointer s w) (noted (loaded w a) s))
  unfolding log_of
  load_steady pointer w a =
      record {
        grows = λ s e h. Memᴰ.tail h;
        twins = λ s s' t inside.
            rw (← (same_contents pointer w s s' t (read w a (inside (loaded w a) (Memᴰ.head refl))))) (twin_ok (noted_twin (loaded w a) (λ v b. stored_loaded) s s' t));
      }

  read_steady : (pointer : Bool) (l : Location) → Steady (read_step pointer l)
  unfolding read_step
  read_steady pointer l = choice (λ s. touchable s l.at) (same_touchable l.at) (load_steady pointer l.at l.access) ruleless

  sum_steady : (either : Bool) (step : ℕ) (p x : Datum) → Steady (sum_step either step p x)
  sum_steady either step p x = answer _ (λ s s' t. refl)

  address_steady : (l : Location) → Steady (address_step l)
  address_steady l = answer _ (λ s s' t. refl)

  cast_steady : (keeps : Bool) (p : Datum) → Steady (cast_step keeps p)
  cast_steady true p = given p
  cast_steady false p = given (unbounded p.value)

  block_twin : (n : ℕ) (s s' : State) → Twin s s' → Twin (with_block n s) (with_block n s')
  block_twin n s s' t =
      record {
        unused = ap (λ u. u + n) t.unused;
        same_log = rw (t.unused, t.same_log) refl;
        values = agree_zeroed n t.unused (agree_weaker (known_before (λ v b. stored_allocated)) t.values);
        bases = agree_zeroed n t.unused t.bases;
        ends = agree_zeroed n t.unused t.ends;
      }

  block_steady : (n : ℕ) → Steady (λ s. ok (block_pointer s.unused n) (with_block n s))
  unfolding log_of
  block_steady n =
      record { grows = λ s e h. Memᴰ.tail h; twins = λ s s' t inside. block s'.unused s s' t.unused (block_twin n s s' t) }
    where
      block : (u : ℕ) (s s' : State) → s.unused ≡ u → Twin (with_block n s) (with_block n s')
          → Twins (ok (block_pointer s.unused n) (with_block n s)) (ok (block_pointer u n) (with_block n s'))
      block u s s' e t = rw (← e) (twin_ok t)

  same_fit : (n : ℕ) (s s' : State) → Twin s s' → leb (s.unused + n) (length s.values) ≡ leb (s'.unused + n) (length s'.values)
  same_fit n s s' t = rw (t.unused, t.values.same_length) refl

  malloc_steady : (x : Datum) → Steady (malloc_step x)
  unfolding malloc_step
  malloc_steady x =
      choice (λ s. eqb x.value 0) (λ s s' t. refl) (given (unbounded 0))
      (choice (λ s. leb (s.unused + x.value) (length s.values)) (same_fit x.value) (block_steady x.value) roomless)

  -- ---- a copy

  -- A word that a copy does not write is known from before it.
  known_outside : (k : ℕ) (a b : Location) (s : State) (w : ℕ) → Outside a.at k w → Known (with_copy k a b s).log w → Known s.log w
  known_outside k a b s w out (at_first h) = at_first h
  known_outside k a b s w out (written {a = c} m) =
      each_cases (λ i. stored (a.at + i) a.access) {C = Known s.log w} k (stored w c) (λ i less q. absurd (apart i less (stored_where q) out))
      (each_cases (λ i. loaded (b.at + i) b.access) {C = Known s.log w} k (stored w c) (λ i less q. absurd (stored_loaded q)) (λ h. written h)) m
    where
      apart : (i : ℕ) → i < k → w ≡ a.at + i → Outside a.at k w → ⊥
      apart i less e (inl h) = omega arith
      apart i less e (inr h) = omega arith

  copy_twin : (k : ℕ) (a b : Location) → ((i : ℕ) → i < k → SameWord (b.at + i) s₀ s₀') → (s s' : State) → Twin s s' → Twin (with_copy k a b s) (with_copy k a b s')
  copy_twin k a b alike s s' t =
      record {
        unused = t.unused;
        same_log = ap (λ log. each_noted k (λ i. stored (a.at + i) a.access) (each_noted k (λ i. loaded (b.at + i) b.access) log)) t.same_log;
        values = agree_moved a.at b.at k (λ i less. at_first (alike i less)) (known_outside k a b s) t.values;
        bases = agree_moved a.at b.at k alike (λ w out h. h) t.bases;
        ends = agree_moved a.at b.at k alike (λ w out h. h) t.ends;
      }

  moved_steady : (k : ℕ) (a b : Location) → Steady (λ s. ok (unbounded k) (with_copy k a b s))
  unfolding log_of
  moved_steady k a b =
      record {
        grows = λ s e h. each_older stores k e (each_older loads k e h);
        twins = λ s s' t inside. twin_ok (copy_twin k a b (λ i less. read _ _ (inside (loads i) (each_older stores k (loads i) (each_has loads k i s.log less)))) s s' t);
      }
    where
      loads : ℕ → Event
      loads i = loaded (b.at + i) b.access

      stores : ℕ → Event
      stores i = stored (a.at + i) a.access

  copy_steady : (n k : ℕ) (p q : Datum) → Steady (copy_step n k p q)
  unfolding copy_step move_step
  copy_steady n k p q =
      bound (checked_steady n p p.value k _)
      (λ a.
      bound (checked_steady n q q.value k _)
      (λ b. choice (λ s. all_below k (λ i. touchable s (b.at + i) && touchable s (a.at + i))) (same_all a b) (moved_steady k a b) ruleless))
    where
      same_all : (a b : Location) (s s' : State) → Twin s s'
          → all_below k (λ i. touchable s (b.at + i) && touchable s (a.at + i)) ≡ all_below k (λ i. touchable s' (b.at + i) && touchable s' (a.at + i))
      same_all a b s s' t = same_below k (λ i. ap₂ (λ x y. x && y) (same_touchable (b.at + i) s s' t) (same_touchable (a.at + i) s s' t))

  -- ---- trees

  mutual
    unfolding place_at

    place_steady : (p : Place) → Steady (place_at p)
    place_steady (Variable n i) = given (variable_location i)
    place_steady (Deref n v) = bound (value_steady v) (deref_steady n)
    place_steady (Field n offset k v) = bound (value_steady v) (field_steady n offset k)
    place_steady NoPlace = ruleless

    value_steady : (v : Value) → Steady (value_at v)
    value_steady (Number n x) = given (unbounded x)
    value_steady (Sum n either step a b) = bound (value_steady a) (λ p. bound (value_steady b) (sum_steady either step p))
    value_steady (Read n pointer p) = bound (place_steady p) (read_steady pointer)
    value_steady (Address n p) = bound (place_steady p) address_steady
    value_steady (Cast n keeps v) = bound (value_steady v) (cast_steady keeps)
    value_steady (Malloc n v) = bound (value_steady v) malloc_steady
    value_steady (Copy n k a b) = bound (value_steady a) (λ p. bound (value_steady b) (copy_steady n k p))
    value_steady NoValue = ruleless

  -- ---- commands

  -- A word written is known from then on.
  known_elsewhere : {v : ℕ} {b : Access} {log : List Event} → (w : ℕ) → (w ≡ v → ⊥) → Known (stored v b ∷ log) w → Known log w
  known_elsewhere w other (at_first h) = at_first h
  known_elsewhere {log = log} w other (written {a} m) = ⊎_elim {C = Known log w} (λ q. absurd (other (stored_where q))) (λ k. written k) (Memᴰ.cases_cons m)

  stored_twin : (pointer : Bool) (w : ℕ) (a : Access) (x : Datum) (s s' : State) → Twin s s'
      → Twin (noted (stored w a) (with_datum pointer w x s)) (noted (stored w a) (with_datum pointer w x s'))
  stored_twin true w a x s s' t =
      record {
        unused = t.unused;
        same_log = ap (λ log. stored w a ∷ log) t.same_log;
        values = agree_set w x.value known_elsewhere t.values;
        bases = agree_set w x.base (λ v n p. p) t.bases;
        ends = agree_set w x.end (λ v n p. p) t.ends;
      }
  stored_twin false w a x s s' t =
      record {
        unused = t.unused;
        same_log = ap (λ log. stored w a ∷ log) t.same_log;
        values = agree_set w x.value known_elsewhere t.values;
        bases = t.bases;
        ends = t.ends;
      }

  store_steady : (pointer : Bool) (w : ℕ) (a : Access) (x : Datum) → Steady {A = Unit {0}} (λ s. ok tt (noted (stored w a) (with_datum pointer w x s)))
  unfolding log_of
  store_steady pointer w a x =
      record {
        grows = λ s e h. rw (log_kept pointer w x s) (Memᴰ.tail h);
        twins = λ s s' t inside. twin_ok (stored_twin pointer w a x s s' t);
      }

  assign_step_steady : (pointer : Bool) (l : Location) (x : Datum) → Steady (assign_step pointer l x)
  unfolding assign_step
  assign_step_steady pointer l x = choice (λ s. touchable s l.at) (same_touchable l.at) (store_steady pointer l.at l.access x) ruleless

  command_steady : (t : Words) (c : ℕ) → Steady (command t c)
  unfolding command assign
  command_steady t c =
      bound (place_steady (place_of t (command_place t c))) (λ l. bound (value_steady (value_of t (command_value t c))) (assign_step_steady _ l))

  -- ---- runs

  record TwinRuns (r r' : Run) : Type 0 where
    ending : r.ending ≡ r'.ending
    state : Twin r.state r'.state

  after_twins : (c : ℕ) {o o' : Outcome (Unit {0})} → Twins o o' → TwinRuns (after_command c o) (after_command c o')
  after_twins c (twin_ok t) = record { ending = refl; state = t }
  after_twins c (twin_fails t) = record { ending = refl; state = t }
  after_twins c (twin_no_room t) = record { ending = refl; state = t }
  after_twins c (twin_no_rule t) = record { ending = refl; state = t }

  then_grows : (t : Words) (c : ℕ) (e : Ending) (s : State) → Within s.log (then_command t c e s).state.log
  then_grows t c done s = rw (after_log c (command t c s)) ((command_steady t c).grows s)
  then_grows t c (abort d) s = λ e h. h
  then_grows t c (out_of_memory d) s = λ e h. h
  then_grows t c (stuck d) s = λ e h. h

  then_twins : (t : Words) (c : ℕ) (e : Ending) (s s' : State) → Twin s s' → Within (then_command t c e s).state.log final
      → TwinRuns (then_command t c e s) (then_command t c e s')
  then_twins t c done s s' twin inside =
      after_twins c ((command_steady t c).twins s s' twin (rw (after_log c (command t c s)) at inside))
  then_twins t c (abort d) s s' twin inside = record { ending = refl; state = twin }
  then_twins t c (out_of_memory d) s s' twin inside = record { ending = refl; state = twin }
  then_twins t c (stuck d) s s' twin inside = record { ending = refl; state = twin }

  commands_twins : (t : Words) (c : ℕ) → Twin s₀ s₀' → Within (commands_below t c s₀).state.log final
      → TwinRuns (commands_below t c s₀) (commands_below t c s₀')
  unfolding commands_below
  commands_twins t zero first inside = record { ending = refl; state = first }
  commands_twins t (suc c) first inside =
      let r = commands_below t c s₀ in
      let below = commands_twins t c first (λ e h. inside e (then_grows t c r.ending r.state e h)) in
      rw (← below.ending) (then_twins t c r.ending r.state (commands_below t c s₀').state below.state inside)

-- ---- the theorems

-- Words that the log does not have as read do not sway a run, from any state whose log has no word as written.
pub reads_are_logged : (t : Words) (c : ℕ) (s s' : State) → ((w : ℕ) → Unwritten w s.log)
    → Alike (commands_below t c s).state.log s s' → EndsAlike s s' (commands_below t c s) (commands_below t c s')
reads_are_logged t c s s' unwritten alike = ends (commands_twins s s' final alike.read t c first (λ e h. h))
  where
    final : List Event
    final = (commands_below t c s).state.log

    known : (w : ℕ) → Known s s' final alike.read s.log w → word s.values w ≡ word s'.values w
    known w (at_first h) = h.value
    known w (written {a} m) = absurd (unwritten w a m)

    first : Twin s s' final alike.read s s'
    first =
        record {
          unused = alike.unused;
          same_log = alike.same_log;
          values = record { same_length = alike.values_length; same = known };
          bases = record { same_length = alike.bases_length; same = λ w h. h.base };
          ends = record { same_length = alike.ends_length; same = λ w h. h.end };
        }

    ends : TwinRuns s s' final alike.read (commands_below t c s) (commands_below t c s') → EndsAlike s s' (commands_below t c s) (commands_below t c s')
    ends r =
        record {
          ending = r.ending;
          unused = r.state.unused;
          same_log = r.state.same_log;
          words = λ w h. record { value = r.state.values.same w (at_first h); base = r.state.bases.same w h; end = r.state.ends.same w h };
          written = λ w a m. r.state.values.same w (written m);
        }

-- The first state of a run has blocks in its log, and no word as written.
registers_unwritten : (l : Words) (i : ℕ) (s : State) (w : ℕ) → Unwritten w s.log → Unwritten w (registers_below l i s).log
unfolding registers_below
registers_unwritten l zero s w none = none
registers_unwritten l (suc i) s w none =
    go (register_variable l i) (register_length l i) (register_words l i) (registers_below l i s) (registers_unwritten l i s w none)
  where
    go : (v n : ℕ) (ws : Words) (r : State) → Unwritten w r.log → Unwritten w (with_register v n ws r).log
    go v zero ws r before a m = before a m
    go v (suc n) ws r before a m = ⊎_elim {C = ⊥} (λ q. stored_allocated q) (before a) (Memᴰ.cases_cons m)

pub begin_unwritten : (t inputs registers : Words) (len w : ℕ) → Unwritten w (begin t inputs registers len).log
unfolding begin cleared
begin_unwritten t inputs registers len w = registers_unwritten registers (register_count registers) (cleared t inputs len) w (λ a h. Memᴰ.not-nil h)
