-- What the functions that finish a node answer is what the rules' steps give.
use Rattle.std.proofs.Common.{◌≡◌, ℕ, ◌+◌, ◌*◌, ◌%◌, ◌<◌, ◌≤◌, Bool, true, false, List, [], ◌∷◌, length, sym, refl, ◌∙◌, subst, inl, inr, arith, lt-ltb, eq-eqb, ne_eqb, le-leb}
use borrow.Author.Tests.{lt-leb}
use Rattle.semantics.specs.Words.{word}
use Rattle.semantics.specs.Table.{is_pointer}
use Rattle.semantics.specs.Rules.{Datum, unbounded, Location, Event, loaded, stored, allocated, tested, State, Outcome, ok, bind, words_left, enough_left, check_of, checked, pointed, deref_step, field_step, touchable, contents, read_step, takes_right, bounds_from, sum_step, cast_step, malloc_step, with_copy, copy_step}
use Rattle.semantics.specs.Explain.{block_start}
use Rattle.semantics.proofs.Tests.{words_are_left, left_inside, check_enough}
use Rattle.semantics.proofs.Invariant.{Inv, permitted_used, LocationOk, Good, good_ok}
use Rattle.semantics.proofs.Steps.{block_clear, copy_done}
use Rattle.semantics.proofs.Lists.{moved_length}
use Rattle.semantics.proofs.Blocks.{loaded_no_block, stored_no_block}
use Rattle.semantics.proofs.Starts.{start_each, start_newest, start_older}
use Rattle.steps.specs.declared.Memory.{Memory}
use Rattle.steps.specs.declared.Slots.{Slots}
use Rattle.steps.specs.Answers.{failed, full, state_of, check_in, DatumIs, LocationIs, Watches, waiting, seen, Answers, answers_ok, answers_failed, answers_full, Kept, Given, Bounded, Told, Reserved, below_limit, past_limit, no_words, Moved, Inside, Finishes, DerefFinishes, FieldFinishes, SumFinishes, LoadFinishes, CastFinishes, MallocFinishes, CopyFinishes}

-- ---- bounds

-- As many words as are asked for, and at least one, are left.
pub inside : (b e w : ℕ) {n k : ℕ} → n ≡ words_left b e w → 1 ≤ k → k ≤ n → (b ≤ w) × (w + k ≤ e)
inside b e w h some enough = left_inside (rw (sym h) at (words_are_left b e w)) some enough

-- ---- what stands at a word

-- What stands at word w of the lists.
abbrev Fetched : ℕ → ℕ → Memory → Slots → ℕ → Slots → Type 0
Fetched p w m = Given DatumIs (contents (is_pointer p) (state_of m 0 []) w)

pub fetched_int : {p x r : ℕ} {s s' : Slots} (m : Memory) (w : ℕ) → p ≡ 0 → x ≡ word m.values.now w → Given DatumIs (unbounded x) s r s' → Fetched p w m s r s'
unfolding is_pointer
fetched_int m w zero e h = rw (zero, ← e) h

pub fetched_pointer : {p b e r : ℕ} {s s' : Slots} (m : Memory) (w : ℕ) → (p ≡ 0 → ⊥) → Bounded b e s s' → r ≡ word m.values.now w → b ≡ word m.bases.now w → e ≡ word m.ends.now w → r < failed
    → Fetched p w m s r s'
unfolding is_pointer
fetched_pointer {p} m w some h hr hb he small =
    rw (le-leb 1 p (omega (arith, some)))
    (record { is = record { value = sym hr; base = sym hb ∙ sym h.base; end = sym he ∙ sym h.end }; small = small; kept = h.kept })

-- ---- what is watched for

-- The slots that it stands in are kept, and so are the blocks of the log.
pub watches_on : {w len : ℕ} {s s' : Slots} {log log' : List Event} → Kept s s' → block_start log' w ≡ block_start log w → Watches w len s log → Watches w len s' log'
watches_on k same (waiting l u w f) = waiting (k.limit ∙ l) (omega (arith, k.unused)) w (k.found ∙ f ∙ sym same)
watches_on k same (seen l u f) = seen (k.limit ∙ l) (omega (arith, k.unused)) (k.found ∙ f ∙ sym same)

pub all_kept : (s : Slots) → Kept s s
all_kept s = record { unused = refl; limit = refl; found = refl }

-- ---- a child's answer: evaluation has ended there, or it goes on

ended_on : {A B : Type 0} {Child : A → ℕ → Slots → Type 0} {Node : B → ℕ → Slots → Type 0} (f : A → State → Outcome B) {m : Memory} {v w : ℕ} {s : Slots} {o : Outcome A} → failed ≤ v
    → Answers Child w m v s o → Answers Node w m v s (bind o f)
ended_on f over (answers_ok x log h small watch) = absurd (omega arith)
ended_on f over (answers_failed log h watch) = answers_failed log h watch
ended_on f over (answers_full log h) = answers_full log h

module _ {A B : Type 0} {Child : A → ℕ → Slots → Type 0} {Ok : ℕ → A → State → Type 0} {Node : B → ℕ → Slots → Type 0} where
  -- The slots go on with it.
  pub passed_on : (f : A → State → Outcome B) {m : Memory} {v : ℕ} {s : Slots} → failed ≤ v → Finishes Child Ok Node f m v s v m s
  passed_on f over = record { meets = λ vars len w s₀ o a g. ended_on f over a }

  pub goes_on : (f : A → State → Outcome B) {m m' : Memory} {v r : ℕ} {s s' : Slots} → v < failed
      → ((vars len w : ℕ) (x : A) (log : List Event) → Child x v s → Watches w (length m.values.now) s log → Inv vars len (state_of m s.unused log)
      → Ok vars x (state_of m s.unused log) → Answers Node w m' r s' (f x (state_of m s.unused log)))
      → Finishes Child Ok Node f m v s r m' s'
  goes_on f {m} {m'} {v} {r} {s} {s'} under k = record { meets = λ vars len w s₀ o a g. on vars len w a g }
    where
      on : (vars len w : ℕ) {s₀ : State} {o : Outcome A} → Answers Child w m v s o → Good vars len s₀ (Ok vars) o → Answers Node w m' r s' (bind o f)
      on vars len w (answers_ok x log h small watch) (good_ok inv later fine) = k vars len w x log h watch inv fine
      on vars len w (answers_failed log h watch) g = absurd (omega arith)
      on vars len w (answers_full log h) g = absurd (omega arith)

-- A result with this U.
pub given_ok : {A : Type 0} {Is : A → ℕ → Slots → Type 0} {w r u : ℕ} {m : Memory} {s' : Slots} (x : A) (log : List Event) → Is x r s' → r < failed → s'.unused ≡ u
    → Watches w (length m.values.now) s' log → Answers Is w m r s' (ok x (state_of m u log))
given_ok x log h small same watch = rw (← same) (answers_ok x log h small watch)

-- A check that is passed: its location.
checked_yes : {w r : ℕ} {s s' : Slots} {m : Memory} (n : ℕ) (p : Datum) (at k : ℕ) (l : Location) (log : List Event)
    → k ≤ words_left p.base p.end at → LocationIs l r s' → r < failed → Kept s s' → Watches w (length m.values.now) s log
    → Answers LocationIs w m r s' (checked n p at k l (state_of m s.unused log))
unfolding checked enough_left block_start
checked_yes n p at k l log enough h small kept watch = rw (le-leb k _ enough) (given_ok l _ h small kept.unused (watches_on kept refl watch))

-- A check that is not passed: the slots tell it.
checked_no : {n at k w r : ℕ} {s s' : Slots} {m : Memory} (p : Datum) (l : Location) (log : List Event)
    → words_left p.base p.end at < k → r ≡ failed → Told n at k s s' → p.base ≡ s.base → p.end ≡ s.end → Watches w (length m.values.now) s log
    → Answers LocationIs w m r s' (checked n p at k l (state_of m s.unused log))
unfolding checked enough_left block_start
checked_no {n} {at} {k} {s = s} {s' = s'} {m = m} p l log short h t' hb he watch =
    rw (lt-leb k _ short, hb, he, ← t'.told, ← t'.kept.unused) (answers_failed (tested (check_in s') ∷ log) h (watches_on t'.kept refl watch))

-- ---- places

-- What is left by the pointer is what is left by the slots.
same_left : {p : Datum} {v a b : ℕ} {s : Slots} → DatumIs p v s → a ≡ b → words_left p.base p.end a ≡ words_left s.base s.end b
same_left h e = rw (h.base, h.end, e)

pub deref_yes : {v x : ℕ} {m : Memory} {s : Slots} (n : ℕ) → v < failed → x ≡ words_left s.base s.end v → 1 ≤ x → DerefFinishes n m v s v s
unfolding deref_step
deref_yes {s = s} n under left enough =
    goes_on {Child = DatumIs} (deref_step n) under
    (λ vars len w p log h watch inv fine.
    checked_yes n p p.value 1 _ log (rw (same_left h h.value, ← left) enough) (record { at = h.value; base = h.base; end = h.end }) under (all_kept s) watch)

pub deref_no : {n v x r : ℕ} {m : Memory} {s s' : Slots} → v < failed → x ≡ words_left s.base s.end v → x < 1 → r ≡ failed → Told n v 1 s s' → DerefFinishes n m v s r s'
unfolding deref_step
deref_no {n} {s = s} {s' = s'} under left short h t =
    goes_on {Child = DatumIs} (deref_step n) under
    (λ vars len w p log i watch inv fine.
    checked_no p _ log (rw (same_left i i.value, ← left) short) h (subst (λ x. Told n x 1 s s') (sym i.value) t) i.base i.end watch)

module _ {v y : ℕ} {m : Memory} {s s' : Slots} (n o k : ℕ) (under : v < failed) (left : y ≡ words_left s.base s.end (v + o)) where
  pub field_yes : 1 ≤ k → k ≤ y → s.end < failed → Bounded (v + o) (v + o + k) s s' → FieldFinishes n o k m v s (v + o) s'
  unfolding field_step
  field_yes some enough small set =
      goes_on (field_step n o k) under
      (λ vars len word_watched p log h watch inv fine.
      let fits = inside s.base s.end (v + o) left some enough in
      let same : p.value + o ≡ v + o = omega (arith, h.value) in
      checked_yes n p _ _ _ log (rw (same_left h same, ← left) enough)
      (record { at = same; base = omega (arith, same, set.base); end = omega (arith, same, set.end) }) (omega (arith, fits)) set.kept watch)

  pub field_no : {r : ℕ} → y < k → r ≡ failed → Told n (v + o) k s s' → FieldFinishes n o k m v s r s'
  unfolding field_step
  field_no short h t =
      goes_on (field_step n o k) under
      (λ vars len word_watched p log i watch inv fine.
      let same : p.value + o ≡ v + o = omega (arith, i.value) in
      rw same (checked_no p _ log (rw (same_left i refl, ← left) short) h t i.base i.end watch))

-- ---- values

-- The bounds of a sum, in the slots s': p is the left operand, and the right one has its bounds in s.
abbrev pub Chosen : Datum → Slots → Slots → Type 0
Chosen p s s' = (x : Datum) → x.base ≡ s.base → x.end ≡ s.end → Bounded (bounds_from true p x).base (bounds_from true p x).end s s'

pub chosen_left : {b e : ℕ} {s s' : Slots} (p : Datum) → p.base ≡ b → p.end ≡ e → (e ≡ 0 → ⊥) → Bounded b e s s' → Chosen p s s'
unfolding takes_right
chosen_left {e = e} p hb he some set x xb xe = rw (he, ne_eqb e 0 some, hb) set

pub chosen_right : {b e : ℕ} {s : Slots} (p : Datum) → p.base ≡ b → p.end ≡ e → e ≡ 0 → Chosen p s s
unfolding takes_right
chosen_right {e = e} {s = s} p hb he none x xb xe =
    rw (he, eq-eqb e 0 none) (record { base = sym xb; end = sym xe; kept = all_kept s })

pub sum_done : {v w r : ℕ} {m : Memory} {s s' : Slots} (step : ℕ) (p : Datum) → p.value ≡ v → w < failed → Chosen p s s'
    → r ≡ (v + step * w) % 4294967296 → r < failed → SumFinishes step p m w s r s'
sum_done {s = s} step p hv under chosen h small =
    goes_on (sum_step true step p) under
    (λ vars len w x log i watch inv fine.
    let set = chosen x i.base i.end in
    given_ok _ log (record { value = rw (hv, i.value) (sym h); base = sym set.base; end = sym set.end }) small set.kept.unused (watches_on set.kept refl watch))

-- A place that may be touched is in use.
pub touched : {vars len at : ℕ} {l : Location} {st : State} → Inv vars len st → LocationOk vars l st → l.at ≡ at
    → (0 < at) × (at < st.unused) × (st.unused ≤ len) × (length st.values ≡ len) × (length st.bases ≡ len) × (length st.ends ≡ len)
touched inv fine e =
    let used = permitted_used inv fine.permitted in
    (omega (arith, used), omega (arith, used), inv.high, inv.values_length, inv.bases_length, inv.ends_length)

-- What a read gives is what stands at the place.
pub load_done : {at r : ℕ} {s s' : Slots} (p : ℕ) (m : Memory) → at < failed → Fetched p at m s r s' → LoadFinishes p m at s r s'
unfolding read_step touchable block_start
load_done {at} {s = s} p m under h =
    goes_on (read_step (is_pointer p)) under
    (λ vars len w l log i watch inv fine.
    let t = touched inv fine i.at in
    rw (i.at, lt-ltb 0 at t.0, lt-ltb at s.unused t.1, found (is_pointer p) _ _) (given_ok _ _ h.is h.small h.kept.unused (watches_on h.kept refl watch)))
  where
    found : (b : Bool) (u : ℕ) (log : List Event) → contents b (state_of m u log) at ≡ contents b (state_of m 0 []) at
    found true u log = refl
    found false u log = refl

pub cast_done : {v : ℕ} {m : Memory} {s s' : Slots} → v < failed → Bounded 0 0 s s' → CastFinishes m v s v s'
cast_done under set =
    goes_on (cast_step false) under
    (λ vars len w x log i watch inv fine.
    given_ok _ log (record { value = i.value; base = sym set.base; end = sym set.end }) under set.kept.unused (watches_on set.kept refl watch))

-- ---- blocks

pub malloc_none : {v r : ℕ} {m : Memory} {s s' : Slots} → v ≡ 0 → Given DatumIs (unbounded 0) s r s' → MallocFinishes m v s r s'
unfolding malloc_step
malloc_none zero h =
    goes_on malloc_step (omega arith)
    (λ vars len w x log i watch inv fine.
    rw (eq-eqb x.value 0 (i.value ∙ zero)) (given_ok _ log h.is h.small h.kept.unused (watches_on h.kept refl watch)))

-- U is raised, and what is watched for is as it was.
record RaisedTo (u : ℕ) (s s' : Slots) : Type 0 where
  unused : s'.unused ≡ u
  limit : s'.limit ≡ s.limit
  found : s'.found ≡ s.found

-- A block of n words was handed out: U is past it, and if it was the first to end past the limit, it is the one that has the word watched for.
watches_block : {w len n : ℕ} {s s₁ s₂ : Slots} {log : List Event} → Reserved (s.unused + n) len s s₁ true → RaisedTo (s.unused + n) s₁ s₂ → Watches w len s log
    → Watches w len s₂ (allocated s.unused n ∷ log)
watches_block {w} {len} {n} {s} {s₁} {s₂} {log} (below_limit small fits same) up (waiting l u top f) =
    waiting (up.limit ∙ rw same l) (omega (arith, up.unused)) top (up.found ∙ rw same f ∙ sym (start_older s.unused n log w (inr (omega arith))))
watches_block {w} {len} {n} {s} {s₁} {s₂} {log} (below_limit small fits same) up (seen l u f) =
    seen (up.limit ∙ rw same l) (omega (arith, up.unused)) (up.found ∙ rw same f ∙ sym (start_older s.unused n log w (inl u)))
watches_block {w} {len} {n} {s} {s₁} {s₂} {log} (past_limit small over fits hu hl hf) up (waiting l u top f) =
    seen (up.limit ∙ hl) (omega (arith, up.unused)) (up.found ∙ hf ∙ sym (start_newest s.unused n log w u (omega arith)))
watches_block (past_limit small over fits hu hl hf) up (seen l u f) = absurd (omega arith)

-- There is room up to the limit.
room_for : {top len w : ℕ} {s s₁ : Slots} {log : List Event} → Reserved top len s s₁ true → Watches w len s log → top ≤ len
room_for (below_limit small fits same) (waiting l u top f) = omega arith
room_for (below_limit small fits same) (seen l u f) = omega arith
room_for (past_limit small over fits hu hl hf) watch = fits

module _ {len v : ℕ} {m : Memory} {s : Slots} (all : length m.values.now ≡ len) (under : v < failed) (some : v ≡ 0 → ⊥) where
  pub malloc_some : {u r : ℕ} {s₁ s₂ : Slots} → Reserved (s.unused + v) len s s₁ true → Bounded s.unused (s.unused + v) s₁ s₂ → u ≡ s.unused + v → r ≡ s.unused → r < failed
      → MallocFinishes m v s r (record s₂ { unused = u })
  unfolding malloc_step
  malloc_some got set hu hr small =
      let up : RaisedTo _ _ _ = record { unused = hu; limit = set.kept.limit; found = set.kept.found } in
      goes_on malloc_step under
      (λ vars l w x log i watch inv fine.
      rw (ne_eqb x.value 0 (λ z. some (sym i.value ∙ z)), i.value, le-leb (s.unused + v) (length m.values.now) (rw all (room_for got (rw all at watch))), block_clear v inv)
      (given_ok _ _ (record { value = sym hr; base = sym set.base; end = sym set.end }) small hu (rw all (watches_block got up (rw all at watch)))))

  pub malloc_full : {r : ℕ} {s₁ : Slots} → Reserved (s.unused + v) len s s₁ false → r ≡ full → MallocFinishes m v s r s₁
  unfolding malloc_step
  malloc_full (no_words over same) h =
      rw same
      (goes_on malloc_step under
      (λ vars l w x log i watch inv fine.
      rw (ne_eqb x.value 0 (λ z. some (sym i.value ∙ z)), i.value, lt-leb (s.unused + v) (length m.values.now) (omega arith))
      (answers_full log h)))

-- ---- copies

pub inside_to : {a e : ℕ} {m : Memory} → Inside e m → a ≤ e → Inside a m
inside_to h less = record { values = omega (arith, h.values); bases = omega (arith, h.bases); ends = omega (arith, h.ends) }

-- The lists with the words moved are those of the state after the copy, and no block of the log is another.
copy_answer : {w r : ℕ} {m m' : Memory} {s s' : Slots} (k : ℕ) (a b : Location) (log : List Event) → Moved a.at b.at k m m' → Given DatumIs (unbounded k) s r s'
    → Watches w (length m.values.now) s log → Answers DatumIs w m' r s' (ok (unbounded k) (with_copy k a b (state_of m s.unused log)))
copy_answer {w} {r} {m} {m'} {s} {s'} k a b log mv h watch =
    rw (← mv.values, ← mv.bases, ← mv.ends)
    (given_ok (unbounded k) _ h.is h.small h.kept.unused (rw (mv.values, moved_length m.values.now a.at b.at k) (watches_on h.kept blocks watch)))
  where
    blocks : block_start (with_copy k a b (state_of m s.unused log)).log w ≡ block_start log w
    blocks =
        start_each (λ i. stored (a.at + i) a.access) k _ w (λ i. stored_no_block _ _)
        ∙ start_each (λ i. loaded (b.at + i) b.access) k log w (λ i. loaded_no_block _ _)

left_of : {v b e x : ℕ} (p : Datum) → p.value ≡ v → p.base ≡ b → p.end ≡ e → x ≡ words_left b e v → words_left p.base p.end p.value ≡ x
left_of p hv hb he left = rw (hv, hb, he) (sym left)

-- The left operand is p: its value v and its bounds [b, e) leave x words. The right one is w, with bounds in the slots s, and leaves y words.
module _ {v b e w x : ℕ} {m : Memory} {s : Slots} (n k : ℕ) (p : Datum) (hv : p.value ≡ v) (hb : p.base ≡ b) (he : p.end ≡ e) (under : w < failed) (left : x ≡ words_left b e v) where
  -- Too few for the left one: the slots s₁ have its bounds.
  pub copy_to_short : {r : ℕ} {s₁ s' : Slots} → x < k → Bounded b e s s₁ → r ≡ failed → Told n v k s₁ s' → CopyFinishes n k p m w s r m s'
  unfolding copy_step
  copy_to_short {s₁ = s₁} {s' = s'} short set h t =
      goes_on (copy_step n k p) under
      (λ vars len watched q log i watch inv fine.
      rw (← set.kept.unused)
      (ended_on _ (omega arith)
      (checked_no p (pointed p) log (rw (left_of p hv hb he left) short) h (subst (λ a. Told n a k s₁ s') (sym hv) t) (hb ∙ sym set.base) (he ∙ sym set.end) (watches_on set.kept refl watch))))

  module _ {y : ℕ} (enough : k ≤ x) (right : y ≡ words_left s.base s.end w) where
    -- Enough for the left one, and too few for the right one.
    pub copy_from_short : {r : ℕ} {s' : Slots} → y < k → r ≡ failed → Told n w k s s' → CopyFinishes n k p m w s r m s'
    unfolding copy_step block_start
    copy_from_short {s' = s'} short h t =
        goes_on (copy_step n k p) under
        (λ vars len watched q log i watch inv fine.
        rw (check_enough n p p.value k (pointed p) (state_of m s.unused log) (rw (left_of p hv hb he left) enough))
        (ended_on _ (omega arith)
        (checked_no q (pointed q) (tested (check_of n p p.value k) ∷ log) (rw (same_left i i.value, ← right) short) h (subst (λ a. Told n a k s s') (sym i.value) t) i.base i.end
        (watches_on (all_kept s) refl watch))))

    -- Enough for both: the words are moved.
    pub copy_made : {r : ℕ} {m' : Memory} {s' : Slots} → 1 ≤ k → k ≤ y → Moved v w k m m' → Given DatumIs (unbounded k) s r s' → CopyFinishes n k p m w s r m' s'
    unfolding block_start
    copy_made some enough_right mv h =
        goes_on (copy_step n k p) under
        (λ vars len watched q log i watch inv fine.
        rw (copy_done n k p q _ some inv fine.left fine.right (rw (left_of p hv hb he left) enough) (rw (same_left i i.value, ← right) enough_right))
        (copy_answer {m = m} k (pointed p) (pointed q) _ (rw (hv, i.value) mv) h (watches_on (all_kept s) refl watch)))
