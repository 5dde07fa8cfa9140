-- Where an event stands in a log, what holds of all checks of a log, and that its blocks lie apart.
use Prim.Native.Nat.{ℕ, zero, suc, ◌+◌, ◌≤◌, ◌<◌}
use mathlib.Core.Path.{◌≡◌, sym, ap, ◌∙◌}
use mathlib.Core.Logic.{◌⊎◌, inl, inr, ⊎_elim}
use mathlib.Core.List.Memᴰ
use mathlib.Core.List.{List, [], ◌∷◌, ◌++◌, Memᴰ}
use native.Mathlib.Omega.{arith}
use native.Mathlib.Nat.{not-suc-le-zero}
use native.Mathlib.Decide.{ℕ_discrete}
use Rattle.semantics.specs.Rules.{Access, BoundsCheck, Event, loaded, stored, allocated, tested, each_noted}
use Rattle.semantics.specs.Safety.{Region, variable, block, Permitted, Allowed}
use Rattle.semantics.specs.Log.{BlocksApart}

-- ---- the event that stands between `later` and `earlier`

pub record Splits (log : List Event) (e : Event) (earlier : List Event) : Type 0 where
  pub later : List Event
  pub is : log ≡ later ++ e ∷ earlier

nil_no_split : (later : List Event) (e : Event) (earlier : List Event) → [] ≡ later ++ e ∷ earlier → ⊥
nil_no_split [] e earlier q = let z : ◌≡◌ {A = ℕ} 0 1 = cc in omega arith
nil_no_split (x ∷ later) e earlier q = let z : ◌≡◌ {A = ℕ} 0 1 = cc in omega arith

-- It is the newest, or it stands in the log before that.
split : (x : Event) (log later : List Event) (e : Event) (earlier : List Event) → x ∷ log ≡ later ++ e ∷ earlier → ((x ≡ e) × (log ≡ earlier)) ⊎ Splits log e earlier
split x log [] e earlier q = inl (cc, cc)
split x log (y ∷ later) e earlier q = inr (record { later = later; is = cc })

-- ---- events of different kinds differ

pub stored_loaded : {w v : ℕ} {a b : Access} → stored w a ≡ loaded v b → ⊥
stored_loaded q = let z : ◌≡◌ {A = ℕ} 0 1 = cc in omega arith

pub stored_allocated : {w v n : ℕ} {a : Access} → stored w a ≡ allocated v n → ⊥
stored_allocated q = let z : ◌≡◌ {A = ℕ} 0 1 = cc in omega arith

loaded_allocated : {w v n : ℕ} {a : Access} → loaded w a ≡ allocated v n → ⊥
loaded_allocated q = let z : ◌≡◌ {A = ℕ} 0 1 = cc in omega arith

pub tested_loaded : {x : BoundsCheck} {v : ℕ} {b : Access} → tested x ≡ loaded v b → ⊥
tested_loaded q = let z : ◌≡◌ {A = ℕ} 0 1 = cc in omega arith

pub stored_tested : {x : BoundsCheck} {w : ℕ} {a : Access} → stored w a ≡ tested x → ⊥
stored_tested q = let z : ◌≡◌ {A = ℕ} 0 1 = cc in omega arith

pub tested_allocated : {x : BoundsCheck} {v n : ℕ} → tested x ≡ allocated v n → ⊥
tested_allocated q = let z : ◌≡◌ {A = ℕ} 0 1 = cc in omega arith

-- The event is no block.
abbrev pub NoBlock : Event → Type 0
NoBlock e = (a n : ℕ) → e ≡ allocated a n → ⊥

pub loaded_no_block : (w : ℕ) (a : Access) → NoBlock (loaded w a)
loaded_no_block w a s n q = loaded_allocated q

pub stored_no_block : (w : ℕ) (a : Access) → NoBlock (stored w a)
stored_no_block w a s n q = stored_allocated q

pub tested_no_block : (x : BoundsCheck) → NoBlock (tested x)
tested_no_block x s n q = tested_allocated q

-- ---- the events of several words

module _ (e : ℕ → Event) where
  -- The log before them is kept, each of them is there, and nothing else is.
  pub each_older : (k : ℕ) {log : List Event} (x : Event) → Memᴰ x log → Memᴰ x (each_noted k e log)
  unfolding each_noted
  each_older zero x h = h
  each_older (suc k) x h = Memᴰ.tail (each_older k x h)

  pub each_has : (k i : ℕ) (log : List Event) → i < k → Memᴰ (e i) (each_noted k e log)
  unfolding each_noted
  each_has zero i log less = absurd (not-suc-le-zero less)
  each_has (suc k) i log less = go (ℕ_discrete i k) (each_has k i log)
    where
      go : Dec (i ≡ k) → (i < k → Memᴰ (e i) (each_noted k e log)) → Memᴰ (e i) (e k ∷ each_noted k e log)
      go (yes q) below = Memᴰ.head (ap e q)
      go (no q) below = Memᴰ.tail (below (omega arith))

  pub each_cases : {C : Type 0} (k : ℕ) {log : List Event} (x : Event) → ((i : ℕ) → i < k → x ≡ e i → C) → (Memᴰ x log → C) → Memᴰ x (each_noted k e log) → C
  unfolding each_noted
  each_cases zero x new old h = old h
  each_cases {C} (suc k) x new old h = ⊎_elim {C = C} (new k (omega arith)) (each_cases k x (λ i less. new i (omega arith)) old) (Memᴰ.cases_cons h)

-- ---- the checks of a log, event by event

-- P holds of every check of the log.
abbrev pub AllChecks : (BoundsCheck → Type 0) → List Event → Type 0
AllChecks P log = (x : BoundsCheck) → Memᴰ (tested x) log → P x

pub no_checks : (P : BoundsCheck → Type 0) → AllChecks P []
no_checks P x h = absurd (Memᴰ.not-nil h)

-- The check asks for at least one word.
abbrev pub Asks : BoundsCheck → Type 0
Asks x = 1 ≤ x.words

module _ {P : BoundsCheck → Type 0} where
  one_more : {e : Event} {log : List Event} → ((x : BoundsCheck) → tested x ≡ e → P x) → AllChecks P log → AllChecks P (e ∷ log)
  one_more new before x h = ⊎_elim {C = P x} (new x) (before x) (Memᴰ.cases_cons h)

  pub one_check : {x : BoundsCheck} {log : List Event} → P x → AllChecks P log → AllChecks P (tested x ∷ log)
  one_check {x} h = one_more (λ y q. let same : y ≡ x = cc in rw same h)

  pub one_load : {w : ℕ} {a : Access} {log : List Event} → AllChecks P log → AllChecks P (loaded w a ∷ log)
  one_load = one_more (λ y q. absurd (tested_loaded q))

  pub one_store : {w : ℕ} {a : Access} {log : List Event} → AllChecks P log → AllChecks P (stored w a ∷ log)
  one_store = one_more (λ y q. absurd (stored_tested (sym q)))

  pub one_block : {a n : ℕ} {log : List Event} → AllChecks P log → AllChecks P (allocated a n ∷ log)
  one_block = one_more (λ y q. absurd (tested_allocated q))

  -- Words read or written are no checks.
  pub each_load : (k : ℕ) (w : ℕ → ℕ) (a : Access) {log : List Event} → AllChecks P log → AllChecks P (each_noted k (λ i. loaded (w i) a) log)
  each_load k w a before x = each_cases (λ i. loaded (w i) a) {C = P x} k (tested x) (λ i less q. absurd (tested_loaded q)) (before x)

  pub each_store : (k : ℕ) (w : ℕ → ℕ) (a : Access) {log : List Event} → AllChecks P log → AllChecks P (each_noted k (λ i. stored (w i) a) log)
  each_store k w a before x = each_cases (λ i. stored (w i) a) {C = P x} k (tested x) (λ i less q. absurd (stored_tested (sym q))) (before x)

-- ---- what is allowed, event by event

module _ {vars : ℕ} where
  pub none_allowed : Allowed vars []
  none_allowed =
      record { reads = λ later earlier w a q. absurd (nil_no_split later (loaded w a) earlier q); writes = λ later earlier w a q. absurd (nil_no_split later (stored w a) earlier q) }

  -- One event more: if it reads or writes, it is permitted by the log before it.
  one_allowed : {x : Event} {log : List Event} → ((w : ℕ) (a : Access) → x ≡ loaded w a → Permitted vars log w a) → ((w : ℕ) (a : Access) → x ≡ stored w a → Permitted vars log w a)
      → Allowed vars log → Allowed vars (x ∷ log)
  one_allowed {x} {log} read write h =
      record {
        reads = λ later earlier w a q. go (loaded w a) earlier w a (read w a) (λ l e. h.reads l earlier w a e) (split x log later (loaded w a) earlier q);
        writes = λ later earlier w a q. go (stored w a) earlier w a (write w a) (λ l e. h.writes l earlier w a e) (split x log later (stored w a) earlier q);
      }
    where
      go : (e : Event) (earlier : List Event) (w : ℕ) (a : Access) → (x ≡ e → Permitted vars log w a) → ((later : List Event) → log ≡ later ++ e ∷ earlier → Permitted vars earlier w a)
          → ((x ≡ e) × (log ≡ earlier)) ⊎ Splits log e earlier → Permitted vars earlier w a
      go e earlier w a here below (inl p) = rw p.1 at (here p.0)
      go e earlier w a here below (inr d) = below d.later d.is

  pub load_allowed : {w : ℕ} {a : Access} {log : List Event} → Permitted vars log w a → Allowed vars log → Allowed vars (loaded w a ∷ log)
  load_allowed {w} {a} {log} h = one_allowed (λ v b q. same v b q h) (λ v b q. absurd (stored_loaded (sym q)))
    where
      same : (v : ℕ) (b : Access) → loaded w a ≡ loaded v b → Permitted vars log w a → Permitted vars log v b
      same v b q k =
          let e : w ≡ v = cc in
          let f : a ≡ b = cc in
          rw (e, f) at k

  pub store_allowed : {w : ℕ} {a : Access} {log : List Event} → Permitted vars log w a → Allowed vars log → Allowed vars (stored w a ∷ log)
  store_allowed {w} {a} {log} h = one_allowed (λ v b q. absurd (stored_loaded q)) (λ v b q. same v b q h)
    where
      same : (v : ℕ) (b : Access) → stored w a ≡ stored v b → Permitted vars log w a → Permitted vars log v b
      same v b q k =
          let e : w ≡ v = cc in
          let f : a ≡ b = cc in
          rw (e, f) at k

  pub alloc_allowed : {s n : ℕ} {log : List Event} → Allowed vars log → Allowed vars (allocated s n ∷ log)
  alloc_allowed = one_allowed (λ w a q. absurd (loaded_allocated (sym q))) (λ w a q. absurd (stored_allocated (sym q)))

  pub test_allowed : {x : BoundsCheck} {log : List Event} → Allowed vars log → Allowed vars (tested x ∷ log)
  test_allowed = one_allowed (λ w a q. absurd (tested_loaded q)) (λ w a q. absurd (stored_tested (sym q)))

  -- Several events, of which each is allowed after those before it.
  pub each_allowed : (e : ℕ → Event) (k : ℕ) {log : List Event} → ((i : ℕ) → i < k → Allowed vars (each_noted i e log) → Allowed vars (e i ∷ each_noted i e log))
      → Allowed vars log → Allowed vars (each_noted k e log)
  unfolding each_noted
  each_allowed e zero next h = h
  each_allowed e (suc k) next h = next k (omega arith) (each_allowed e k (λ i less. next i (omega arith)) h)

-- ---- blocks

-- The blocks of a log lie one after the other above the variables, and the newest ends at U.
pub data Stacked (vars : ℕ) : List Event → ℕ → Type 0 where
  none : Stacked vars [] (1 + vars)
  beside : {e : Event} {log : List Event} {u : ℕ} → NoBlock e → Stacked vars log u → Stacked vars (e ∷ log) u
  alloc : {n : ℕ} {log : List Event} {u : ℕ} → 0 < n → Stacked vars log u → Stacked vars (allocated u n ∷ log) (u + n)

pub each_beside : {vars u : ℕ} (e : ℕ → Event) {log : List Event} (k : ℕ) → ((i : ℕ) → NoBlock (e i)) → Stacked vars log u → Stacked vars (each_noted k e log) u
unfolding each_noted
each_beside e zero apart st = st
each_beside e (suc k) apart st = beside (apart k) (each_beside e k apart st)

pub stacked_low : {vars u : ℕ} {log : List Event} → Stacked vars log u → vars < u
stacked_low none = omega arith
stacked_low (beside apart st) = stacked_low st
stacked_low (alloc some st) = omega (arith, stacked_low st)

-- Each has a word, and lies above the variables and below U.
pub stacked_inside : {vars u : ℕ} {log : List Event} → Stacked vars log u → (a n : ℕ) → Memᴰ (allocated a n) log → (0 < n) × (vars < a) × (a + n ≤ u)
stacked_inside none a n h = absurd (Memᴰ.not-nil h)
stacked_inside (beside apart st) a n h = ⊎_elim (λ q. absurd (apart a n (sym q))) (λ m. stacked_inside st a n m) (Memᴰ.cases_cons h)
stacked_inside {vars} (alloc {n = k} {u = u} some st) a n h = ⊎_elim new (λ m. omega (arith, stacked_inside st a n m)) (Memᴰ.cases_cons h)
  where
    new : allocated a n ≡ allocated u k → (0 < n) × (vars < a) × (a + n ≤ u + k)
    new q =
        let p : a ≡ u = cc in
        let r : n ≡ k = cc in
        omega (arith, stacked_low st)

-- The blocks before a block lie below it.
stacked_before : {vars u : ℕ} {log : List Event} → Stacked vars log u → (later : List Event) (a n : ℕ) (earlier : List Event) → log ≡ later ++ allocated a n ∷ earlier → Stacked vars earlier a
stacked_before none later a n earlier q = absurd (nil_no_split later (allocated a n) earlier q)
stacked_before (beside {e = e} {log = log} apart st) later a n earlier q =
    ⊎_elim (λ p. absurd (apart a n p.0)) (λ d. stacked_before st d.later a n earlier d.is) (split e log later (allocated a n) earlier q)
stacked_before {vars} (alloc {n = k} {log = log} {u = u} some st) later a n earlier q =
    ⊎_elim here (λ d. stacked_before st d.later a n earlier d.is) (split (allocated u k) log later (allocated a n) earlier q)
  where
    here : (allocated u k ≡ allocated a n) × (log ≡ earlier) → Stacked vars earlier a
    here p =
        let same = p.0 in
        let start : u ≡ a = cc in
        rw (start, p.1) at st

-- ---- a variable and a block, and two blocks, share no word

module _ {vars u : ℕ} {log : List Event} (st : Stacked vars log u) where
  -- The words of a variable or block are in use.
  pub region_used : {s t : ℕ} → Region vars log s t → (0 < s) × (t ≤ u)
  region_used (variable i h) = omega (arith, stacked_low st)
  region_used (block s n h) = omega (arith, stacked_inside st s n h)

-- Two blocks of the log that share a word are one.
two_blocks : {vars u : ℕ} {log : List Event} → Stacked vars log u → (a n b k w : ℕ) → Memᴰ (allocated a n) log → Memᴰ (allocated b k) log
    → a ≤ w → w < a + n → b ≤ w → w < b + k → (a ≡ b) × (n ≡ k)
two_blocks none a n b k w h g la lb ma mb = absurd (Memᴰ.not-nil h)
two_blocks (beside apart st) a n b k w h g la lb ma mb =
    ⊎_elim (λ q. absurd (apart a n (sym q))) (λ h'. ⊎_elim (λ q. absurd (apart b k (sym q))) (λ g'. two_blocks st a n b k w h' g' la lb ma mb) (Memᴰ.cases_cons g)) (Memᴰ.cases_cons h)
two_blocks (alloc {n = m} {log = log} {u = u} some st) a n b k w h g la lb ma mb =
    go (Memᴰ.cases_cons h) (Memᴰ.cases_cons g) (λ h' g'. two_blocks st a n b k w h' g' la lb ma mb)
  where
    -- The newest block starts where those before it end.
    below : (c d : ℕ) → c ≡ u → c ≤ w → w < d → d ≤ u → ⊥
    below c d e from less upto = omega arith

    start : (c d : ℕ) → allocated c d ≡ allocated u m → c ≡ u
    start c d q = cc

    words : (c d : ℕ) → allocated c d ≡ allocated u m → d ≡ m
    words c d q = cc

    go : (allocated a n ≡ allocated u m) ⊎ Memᴰ (allocated a n) log → (allocated b k ≡ allocated u m) ⊎ Memᴰ (allocated b k) log
        → (Memᴰ (allocated a n) log → Memᴰ (allocated b k) log → (a ≡ b) × (n ≡ k)) → (a ≡ b) × (n ≡ k)
    go (inl p) (inl q) deeper = (start a n p ∙ sym (start b k q), words a n p ∙ sym (words b k q))
    go (inl p) (inr g') deeper = absurd (below a (b + k) (start a n p) la mb (stacked_inside st b k g').2)
    go (inr h') (inl q) deeper = absurd (below b (a + n) (start b k q) ma lb (stacked_inside st a n h').2)
    go (inr h') (inr g') deeper = deeper h' g'

module _ {vars u : ℕ} {log : List Event} (st : Stacked vars log u) where
  -- A word is of one variable or block at most.
  one_region : {s t s' t' w : ℕ} → Region vars log s t → Region vars log s' t' → s ≤ w → w < t → s' ≤ w → w < t' → (s ≡ s') × (t ≡ t')
  one_region (variable i h) (variable j k) a b c d = omega arith
  one_region (variable i h) (block s n k) a b c d = absurd (omega (arith, stacked_inside st s n k))
  one_region (block s n k) (variable i h) a b c d = absurd (omega (arith, stacked_inside st s n k))
  one_region {w = w} (block s n h) (block s' n' k) a b c d =
      let same = two_blocks st s n s' n' w h k a b c d in
      (same.0, rw (same.0, same.1))

  pub blocks_apart : {len : ℕ} → u ≤ len → BlocksApart vars len log
  blocks_apart high =
      record {
        inside = λ s n h. omega (arith, stacked_inside st s n h);
        apart = λ later earlier s n s' n' w q h from upto from' upto'. absurd (omega (arith, stacked_inside (stacked_before st later s n earlier q) s' n' h));
        one = λ {b} {e} h k. one_region h.region k.region h.from (omega (arith, h.proper, h.upto)) k.from (omega (arith, k.proper, k.upto));
      }
