-- Laws of the check of a node: after its kind, of its children, and as a whole.
use Rattle.std.specs.Prelude.{⊤, Result, Ok, Err}
use Prim.Native.Nat.{ℕ, suc, ◌+◌, ◌<◌, ◌%◌}
use mathlib.Core.Bool.{Bool, true, false}
use mathlib.Core.Path.{◌≡◌, refl, sym, ◌∙◌, ap}
use mathlib.Core.List.{[], ◌∷◌, ◌++◌}
use native.Mathlib.Omega.{arith}
use borrow.Author.Tests.{ltb-true, leb-true}
use lib.Dec.{leb, eqb}
use lib.ListN.{length, set}
use Rattle.semantics.specs.Words.{Words, word}
use Rattle.semantics.specs.Table.{edition_1, nodes, count_place, count, item_place, item, known_type, Kind, field, read, unknown, Sort, neither, sort_of, Operand, operand_a, operand_b, child, children, type_rule, types_below, node_type, node_kind, node_a, node_b, pointed_record, points_to_record, kind_of}
use Rattle.semantics.specs.Table as table
use Rattle.semantics.specs.Check.{Verdict, passes, refused, ◌or_else◌, require, each, same_sort, is_child, operand_fault, types_fit, node_fault}
use Rattle.semantics.proofs.Passed.{or_else_passes, require_passes, each_passes}
use Rattle.semantics.proofs.Trees.{is_child_true, types_known}
use Rattle.std.specs.Result.{IsErrAnd}
use Rattle.layout.specs.Refusals.{Outcome, number_of, is, outcome_of}
use Rattle.layout.specs.Refusals as answer
use Rattle.layout.specs.declared.Refusal.{Refusal}
use Rattle.layout.specs.declared.Fault.TheVariants as faults
use Rattle.layout.specs.Lists.{by_verdict}
use Rattle.layout.specs.Notes.{bits, note}
use Rattle.layout.proofs.Laws.{outcome_on, require_refuses, or_else_pass, or_else_refuse, or_else_assoc}
use Rattle.nodes.specs.Nodes.{typed_by, type_found, kind_fault, typed_kind, field_found, read_bit}
use Rattle.nodes.specs.Promises.{Placed, Reached, TargetAt, typed_verdict, Small, note_added, Counted, Countable, CountableBoth, Room, Told, Noted}
use Rattle.nodes.proofs.Lookups.{few_pointers}
use Rattle.nodes.proofs.Sorts.{child_known, child_type, child_same, read_bits}

-- A refusal of what is not met.
pub fault_same : (ok : Bool) (f p : ℕ) {m q : ℕ} → refused m q ≡ require ok f p → ok ≡ false → ◌≡◌ {A = Outcome ℕ} (answer.refused m q) (answer.refused f p)
fault_same ok f p {m} {q} e z = go (e ∙ require_refuses ok f p z)
  where
    go : refused m q ≡ refused f p → ◌≡◌ {A = Outcome ℕ} (answer.refused m q) (answer.refused f p)
    go e = let a : m ≡ f = cc in let b : q ≡ p = cc in rw (a, b)

pub both_pass : {u v : Verdict} → u ≡ passes → v ≡ passes → u or_else v ≡ passes
unfolding ◌or_else◌
both_pass {u} {v} p q = rw (p, q)

-- The check of a node's two other words, where the node stands at this place.
abbrev pub operands : Words → ℕ → ℕ → Kind → ℕ → ℕ → Verdict
operands t n place k a b = operand_fault t n (operand_a k) a (place + 1) or_else operand_fault t n (operand_b k) b (place + 2)

module _ {t : Words} {n place : ℕ} (at : Placed t n place) (k : Kind) (a b : ℕ) where
  by_operands : kind_fault t n k a b ≡ operands t n place k a b or_else require (types_fit t k a b) 8 place
  unfolding kind_fault item_place
  by_operands =
      let p₀ : item_place t 4 n 0 ≡ place = sym at.here in
      let p₁ : item_place t 4 n 1 ≡ place + 1 = omega (arith, at.here) in
      let p₂ : item_place t 4 n 2 ≡ place + 2 = omega (arith, at.here) in
      rw (p₀, p₁, p₂) (sym (or_else_assoc _ _ _))

  pub operand_refused : {r p : ℕ} → operands t n place k a b ≡ refused r p → answer.refused r p ≡ typed_kind t n k a b
  unfolding typed_kind ◌or_else◌
  operand_refused e = rw (by_operands, e)

  module _ (ok : operands t n place k a b ≡ passes) where
    pub past_operands : typed_kind t n k a b ≡ typed_by (require (types_fit t k a b) 8 place) (type_found t n k a b)
    unfolding typed_kind
    past_operands = rw (by_operands, or_else_pass (operands t n place k a b) (require (types_fit t k a b) 8 place) ok)

    pub types_refused : types_fit t k a b ≡ false → answer.refused 8 place ≡ typed_kind t n k a b
    unfolding require
    types_refused e = rw (past_operands, e)

    pub typed : types_fit t k a b ≡ true → {ty : ℕ} → ty ≡ type_found t n k a b → is ty ≡ typed_kind t n k a b
    unfolding require
    typed fit q = rw (past_operands, fit, q)

  -- What refuses the node, where a step passes its refusal x up.
  module _ (r : Result ℕ Refusal) (x : Refusal) (up : IsErrAnd r (λ y. y ≡ x)) where
    pub operands_failed : refused (number_of x.fault) x.place ≡ operands t n place k a b → outcome_of r ≡ typed_kind t n k a b
    operands_failed e = outcome_on r x up (operand_refused (sym e))

    pub first_failed : refused (number_of x.fault) x.place ≡ operand_fault t n (operand_a k) a (place + 1) → outcome_of r ≡ typed_kind t n k a b
    first_failed e = operands_failed (sym (or_else_refuse _ _ (sym e)))

    pub second_failed : operand_fault t n (operand_a k) a (place + 1) ≡ passes → refused (number_of x.fault) x.place ≡ operand_fault t n (operand_b k) b (place + 2) → outcome_of r ≡ typed_kind t n k a b
    second_failed ok e = operands_failed (e ∙ sym (or_else_pass _ _ ok))

    pub types_failed : operands t n place k a b ≡ passes → (ok : Bool) → refused (number_of x.fault) x.place ≡ require ok 8 place → ok ≡ false → types_fit t k a b ≡ false → outcome_of r ≡ typed_kind t n k a b
    types_failed pass ok e z unfit = outcome_on r x up (fault_same ok 8 place e z ∙ types_refused pass unfit)

-- A field's node, where the pointer is to record r.
pub by_record : {t : Words} {n place : ℕ} → Placed t n place → (a b r : ℕ) → operands t n place field a b ≡ passes
    → points_to_record t (node_type t a) ≡ true → r ≡ pointed_record t (node_type t a) → node_type t a ≡ word (types_below t n) a → field_found t r b place ≡ typed_kind t n field a b
unfolding field_found
by_record at a b r ok points e same = rw (past_operands at field a b ok, ← same, points, e)

-- ---- children

-- A child x: its type is known, and is in the list.
pub record Child (t notes : Words) (n x : ℕ) : Type 0 where
  pub less : x < n
  pub known : known_type t (node_type t x) ≡ true
  pub array : word notes x % 128 ≡ node_type t x
  pub same : word notes x % 128 ≡ word (types_below t n) x

module _ {t notes : Words} {n place : ℕ} (h : Reached t notes n place) where
  pub placed : Placed t n place
  placed = record { here = h.here }

  pub child_of : (s : Sort) {x : ℕ} → is_child t s n x ≡ true → Child t notes n x
  child_of s {x} c =
      let less = (is_child_true t s n x c).0 in
      record { less = less; known = child_known h.noted_to x less; array = child_type h.noted_to x less; same = child_same h.noted_to x less }

  -- A pointer entry is the type of a child, and so has a target.
  pub target_at : {x targets pointer : ℕ} → Child t notes n x → targets ≡ count_place t 2 + 1 → pointer ≡ word notes x % 128 → leb 2 pointer ≡ true → TargetAt t targets pointer
  target_at child first e entry = record { first = first; types_pass = h.noted_to.types_pass; known = rw (e, child.array) child.known; entry = leb-true _ _ entry }

  -- A child of a node whose b isn't used.
  pub only_child_of : (s : Sort) (x b : ℕ) → require (is_child t s n x) 7 (place + 1) or_else require (eqb b 0) 7 (place + 2) ≡ passes → Child t notes n x
  only_child_of s x b ok = child_of s (require_passes (is_child t s n x) 7 (place + 1) (or_else_passes (require (is_child t s n x) 7 (place + 1)) (require (eqb b 0) 7 (place + 2)) ok).0)

-- ---- the whole node

-- Word x at p, an operand of node n, is to be a child of sort σ.
abbrev ChildWord : Words → ℕ → Operand → ℕ → ℕ → Sort → Type 0
ChildWord t n o x p σ = operand_fault t n o x p ≡ require (is_child t σ n x) 7 p

word_child : (t : Words) (n : ℕ) (o : Operand) (x p : ℕ) (σ : Sort) → ChildWord t n o x p σ → operand_fault t n o x p ≡ passes → (x < n) × (σ ≡ sort_of (node_kind t x))
word_child t n o x p σ e q = is_child_true t σ n x (require_passes (is_child t σ n x) 7 p (sym e ∙ q))

pub counted_none : (used : Words) → Counted used used []
counted_none used = record { all = refl; more = λ i. omega arith }

-- What an answer says where the check says v and the type is ty.
verdict_is : (x : Result ℕ Refusal) (v : Verdict) (ty : ℕ) → outcome_of x ≡ typed_by v ty → typed_verdict x ≡ v
verdict_is (Ok y) passes ty q = refl
verdict_is (Ok y) (refused n p) ty q = cc
verdict_is (Err r) passes ty q = cc
verdict_is (Err r) (refused n p) ty q = cc

typed_is : (v : Verdict) (x : ℕ) {ty : ℕ} → is ty ≡ typed_by v x → (v ≡ passes) × (ty ≡ x)
typed_is passes x q = (refl, cc)
typed_is (refused n p) x q = cc

module _ {t notes : Words} {n place : ℕ} (h : Reached t notes n place) where
  kind_at : node_kind t n ≡ kind_of (word t place)
  unfolding node_kind item
  kind_at = rw h.here

  a_at : node_a t n ≡ word t (place + 1)
  unfolding item item_place
  a_at = ap (word t) (omega (arith, h.here))

  b_at : node_b t n ≡ word t (place + 2)
  unfolding item item_place
  b_at = ap (word t) (omega (arith, h.here))

  unknown_refused : kind_of (word t place) ≡ unknown → node_fault t n ≡ refused 7 place
  unfolding node_fault require ◌or_else◌
  unknown_refused e = rw (kind_at, e, h.here)

  pub unknown_noted : kind_of (word t place) ≡ unknown → {used : Words} → Noted t n (Err (record { fault = faults.Operand; place = place })) notes notes used used
  unknown_noted e {used} = record { verdict = sym (unknown_refused e); noted = rw (unknown_refused e); counted = rw (unknown_refused e) (counted_none used) }

  -- A node of kind k, from what its check answered.
  module _ (k : Kind) (e : kind_of (word t place) ≡ k) (s : same_sort neither (sort_of k) ≡ false) (x : Result ℕ Refusal) (q : outcome_of x ≡ typed_kind t n k (word t (place + 1)) (word t (place + 2))) where
    same_fault : node_fault t n ≡ kind_fault t n k (word t (place + 1)) (word t (place + 2))
    unfolding node_fault kind_fault require ◌or_else◌
    same_fault = rw (kind_at, e, a_at, b_at, s)

    verdict_same : typed_verdict x ≡ node_fault t n
    unfolding typed_kind
    verdict_same = rw same_fault (verdict_is x (kind_fault t n k (word t (place + 1)) (word t (place + 2))) (type_found t n k (word t (place + 1)) (word t (place + 2))) q)

    -- The bits of its note are asked where it passes.
    note_is : {mark : ℕ} → (typed_verdict x ≡ passes → mark ≡ bits k (item t nodes (word t (place + 1)) 0)) → note_added x mark n notes ≡ by_verdict (node_fault t n) (set notes n (note edition_1 t n)) notes
    unfolding typed_kind note node_type type_rule
    note_is {mark} m =
        rw (same_fault, kind_at, a_at, b_at, e) (note_by x (kind_fault t n k (word t (place + 1)) (word t (place + 2))) (type_found t n k (word t (place + 1)) (word t (place + 2))) q (λ p. m (verdict_same ∙ same_fault ∙ p)))
      where
        note_by : (x : Result ℕ Refusal) (v : Verdict) (ty : ℕ) {bit : ℕ} → outcome_of x ≡ typed_by v ty → (v ≡ passes → mark ≡ bit) → note_added x mark n notes ≡ by_verdict v (set notes n (ty + bit)) notes
        note_by (Ok y) passes ty q h = let z : y ≡ ty = cc in rw (z, h refl)
        note_by (Ok y) (refused a b) ty q h = cc
        note_by (Err r) passes ty q h = cc
        note_by (Err r) (refused a b) ty q h = refl

    small_type : Small x
    unfolding typed_kind known_type node_type type_rule each
    small_type =
        record {
          type_small = λ ty i.
              let r = typed_is (kind_fault t n k (word t (place + 1)) (word t (place + 2))) (type_found t n k (word t (place + 1)) (word t (place + 2))) (sym (ap outcome_of i) ∙ q) in
              let pass = same_fault ∙ r.0 in
              let known = types_known h.noted_to.types_pass (suc n) (each_more pass) n (omega arith) in
              let here : node_type t n ≡ ty = rw (kind_at, e, a_at, b_at, r.1) in
              omega (arith, here, ltb-true (node_type t n) (2 + count t 2) known, few_pointers h.noted_to.types_pass);
        }
      where
        each_more : node_fault t n ≡ passes → (i : ℕ) → i < suc n → node_fault t i ≡ passes
        each_more p = each_passes (suc n) (node_fault t) (both_pass h.noted_to.nodes_pass p)

    pub noted : {mark : ℕ} {l : Words} {r : Result ⊤ Refusal} {notes' used used' : Words} → Told x mark n l r notes notes' used used' → l ≡ child (operand_a k) (word t (place + 1)) ++ child (operand_b k) (word t (place + 2))
        → (typed_verdict x ≡ passes → mark ≡ bits k (item t nodes (word t (place + 1)) 0)) → Noted t n r notes notes' used used'
    unfolding children
    noted told hl m =
        record {
          verdict = told.verdict ∙ verdict_same;
          noted = told.noted ∙ note_is m;
          counted = rw (kind_at, a_at, b_at, e, ← hl) (rw verdict_same at told.counted);
        }

    -- What passes has the child a, and the child b where its kind has one.
    words_pass : typed_verdict x ≡ passes → (operand_fault t n (operand_a k) (word t (place + 1)) (item_place t nodes n 1) ≡ passes) × (operand_fault t n (operand_b k) (word t (place + 2)) (item_place t nodes n 2) ≡ passes)
    unfolding kind_fault
    words_pass p =
        let r = or_else_passes (operand_fault t n (operand_a k) (word t (place + 1)) (item_place t nodes n 1)) _ (sym same_fault ∙ sym verdict_same ∙ p) in
        (r.0, (or_else_passes (operand_fault t n (operand_b k) (word t (place + 2)) (item_place t nodes n 2)) _ r.1).0)

    pub child_a : (σ : Sort) → ChildWord t n (operand_a k) (word t (place + 1)) (item_place t nodes n 1) σ → typed_verdict x ≡ passes → (word t (place + 1) < n) × (σ ≡ sort_of (node_kind t (word t (place + 1))))
    child_a σ o p = word_child t n (operand_a k) (word t (place + 1)) (item_place t nodes n 1) σ o (words_pass p).0

    -- What is required to note a node, and to count the uses of its children.
    module _ {used : Words} (room : Room notes used) where
      pub ready : Small x × (length notes ≡ 512)
      ready = (small_type, room.notes_length)

      countable : {y : ℕ} → y < n → Countable used y
      countable {y} less = record { room = room.uses_length; inside = omega (arith, h.few); few = omega (arith, room.few y) }

      module _ (σ : Sort) (o : ChildWord t n (operand_a k) (word t (place + 1)) (item_place t nodes n 1) σ) where
        pub child_ready : Small x × (length notes ≡ 512) × (typed_verdict x ≡ passes → Countable used (word t (place + 1)))
        child_ready = (small_type, room.notes_length, λ p. countable (child_a σ o p).0)

        pub children_ready : ChildWord t n (operand_b k) (word t (place + 2)) (item_place t nodes n 2) σ
            → Small x × (length notes ≡ 512) × (typed_verdict x ≡ passes → CountableBoth used (word t (place + 1)) (word t (place + 2)))
        children_ready o' =
            (small_type, room.notes_length, λ p. record { first = countable (child_a σ o p).0; inside = (countable (word_child t n (operand_b k) (word t (place + 2)) (item_place t nodes n 2) σ o' (words_pass p).1).0).inside; few = room.few (word t (place + 2)) })

  -- A read's bit is that of its place.
  pub noted_read : {x : Result ℕ Refusal} {r : Result ⊤ Refusal} {notes' used used' : Words} → kind_of (word t place) ≡ read → outcome_of x ≡ typed_kind t n read (word t (place + 1)) (word t (place + 2))
      → Told x (read_bit (word notes (word t (place + 1)))) n (word t (place + 1) ∷ []) r notes notes' used used' → Noted t n r notes notes' used used'
  noted_read e q told = noted read e refl _ q told refl (λ p. let c = child_a read e refl _ q table.place refl p in read_bits h.noted_to (word t (place + 1)) c.0 (sym c.1))
