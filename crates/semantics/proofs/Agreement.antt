-- Request 9: the fenced run and the bare run have the same result. A step of the bare run does to the values and to U what the step of the fenced run
-- does, unless a check fails there. So the bare run follows the fenced one, step by step: through a tree, a command, all commands, a call.
use Rattle.std.specs.Prelude.{if◌then◌else◌}
use Prim.Native.Nat.{ℕ, zero, suc, ◌+◌, ◌≤◌, ◌<◌}
use mathlib.Core.Bool.{Bool, true, false}
use mathlib.Core.Path.{◌≡◌, refl, ap, ◌∙◌}
use native.Mathlib.Omega.{arith}
use borrow.Author.Tests.{lt-ltb}
use lib.Dec.{leb, ltb, eqb}
use lib.ListN.{length, set}
use Rattle.semantics.specs.Words.{Words, word}
use Rattle.semantics.specs.Table.{variables, commands, count}
use Rattle.semantics.specs.Registers.{register_count, register_variable, register_length, register_words}
use Rattle.semantics.specs.Check.{Verdict, passes, refused, call_fault}
use Rattle.semantics.specs.Syntax.{Place, Value}
use Rattle.semantics.specs.Rules.{Datum, unbounded, block_pointer, Access, Location, BoundsCheck, loaded, stored, State, noted, Outcome, ok, fails, no_room, bind, checked, pointed, pointed_step, deref_step, field_step, contents, read_step, cast_step, with_block, malloc_step, copy_step, place_at, value_at, with_datum, assign_step, assign}
use Rattle.semantics.specs.Run.{cleared, with_register, registers_below, begin, command, done, abort, out_of_memory, stuck, Run, ended, after_command, then_command, commands_below, run, Answer, refusal, ending, result_of, call_by, call}
use Rattle.semantics.specs.Safety.{Permitted, Sound, absent, held}
use Rattle.semantics.specs.Bare as Bare
use Rattle.semantics.specs.Agreement.{SameResult}
use Rattle.semantics.proofs.Tests.{and_both, CheckMade, check_passed, check_missed, check_made}
use Rattle.semantics.proofs.Lists.{all_true}
use Rattle.semantics.proofs.Passed.{Passed}
use Rattle.semantics.proofs.Blocks.{region_used}
use Rattle.semantics.proofs.Invariant.{Inv, Later, sound_later, permitted_used, DatumOk, LocationOk, location_later, Good, good_ok, good_fails, good_no_room}
use Rattle.semantics.proofs.Steps.{touchable_true, words_later, pointed_good, move_done, PlaceOk, variable_ok, deref_ok, field_ok, ValueOk, number_ok, sum_ok, read_ok, address_ok, cast_ok, malloc_ok, copy_ok, place_good, value_good}
use Rattle.semantics.proofs.Trees.{command_ok}
use Rattle.semantics.proofs.Safety.{Begun, begun, begin_inv, commands_ok}

-- ---- two outcomes

-- The state without bounds and log.
abbrev pub bared : State → Bare.State
bared s = record { values = s.values; unused = s.unused }

-- The bare outcome follows the fenced one: its state is the same without bounds, its result is what f keeps of the fenced result. Where a check fails
-- nothing is claimed of it. No step is without a rule, so there is no case for that.
data Follows {A B : Type 0} (f : A → B) : Outcome A → Bare.Outcome B → Type 0 where
  both_ok : {a : A} {s : State} → Follows f (ok a s) (Bare.ok (f a) (bared s))
  both_no_room : {s : State} → Follows f (no_room s) (Bare.no_room (bared s))
  unclaimed : {x : BoundsCheck} {s : State} {o : Bare.Outcome B} → Follows f (fails x s) o

-- One step after another: the bare run follows both where it follows the first, and the second from every good result of the first.
bind_follows : {vars len : ℕ} {s₀ : State} {A B C D : Type 0} {P : A → State → Type 0} {f : A → B} {g : C → D} {m : Outcome A} {m' : Bare.Outcome B}
    {k : A → State → Outcome C} (k' : B → Bare.State → Bare.Outcome D)
    → Good vars len s₀ P m
    → Follows f m m'
    → ((a : A) (s : State) → Inv vars len s → Later s₀ s → P a s → Follows g (k a s) (k' (f a) (bared s)))
    → Follows g (bind m k) (Bare.bind m' k')
bind_follows k' (good_ok inv l p) both_ok next = next _ _ inv l p
bind_follows k' (good_fails inv l sound) unclaimed next = unclaimed
bind_follows k' (good_no_room inv l) both_no_room next = both_no_room

-- ---- what the invariant gives

-- No bounds reach past U.
end_used : {vars len b e : ℕ} {s : State} → Inv vars len s → Sound vars s.log b e → e ≤ s.unused
end_used inv (absent p q) = omega arith
end_used inv (held h) = omega (arith, region_used inv.blocks h.region, h.upto)

-- A word that the fence permits is one that the bare run can touch.
bare_touchable : {vars len w : ℕ} {s : State} {a : Access} → Inv vars len s → Permitted vars s.log w a → Bare.touchable (bared s) w ≡ true
unfolding Bare.touchable
bare_touchable {w = w} {s = s} inv h =
    let used = permitted_used inv h in
    and_both (ltb 0 w) (ltb w (length s.values)) (lt-ltb 0 w used.0) (lt-ltb w (length s.values) (omega (arith, used, inv.high, inv.values_length)))

-- ---- steps

abbrev datum_value : Datum → ℕ
datum_value d = d.value

abbrev location_word : Location → ℕ
location_word l = l.at

-- A check changes neither the values nor U, so a bare run that has the place at once follows it. That x is the place may rest on a passed check.
checked_follows : (n : ℕ) (p : Datum) (w k : ℕ) (l : Location) (s : State) (x : ℕ) → ((1 ≤ k → (p.base ≤ w) × (w + k ≤ p.end)) → x ≡ l.at)
    → Follows location_word (checked n p w k l s) (Bare.ok x (bared s))
checked_follows n p w k l s x same = go (check_made n p w k l s)
  where
    go : {o : Outcome Location} → CheckMade n p w k l s o → Follows location_word o (Bare.ok x (bared s))
    go (check_passed inside) = rw (same inside) both_ok
    go (check_missed miss) = unclaimed

pointed_follows : (n k : ℕ) (p : Datum) (s : State) → Follows location_word (pointed_step n k p s) (Bare.ok p.value (bared s))
pointed_follows n k p s = checked_follows n p p.value k (pointed p) s p.value (λ inside. refl)

-- A field that passes its check lies below U, so its sum stays below 4,294,967,296.
field_follows : {vars len : ℕ} (n offset k : ℕ) (p : Datum) (s : State) → len ≤ 65536 → 0 < k → Inv vars len s → DatumOk vars p s
    → Follows location_word (field_step n offset k p s) (Bare.field_step offset p.value (bared s))
unfolding field_step
field_follows n offset k p s most some inv good =
    checked_follows n p (p.value + offset) k _ s _ (λ inside. let upto = inside some in omega (arith, end_used inv good.sound, inv.high))

read_follows : {vars len : ℕ} (bounds : Bool) (l : Location) (s : State) → Inv vars len s → LocationOk vars l s
    → Follows datum_value (read_step bounds l s) (Bare.read_step l.at (bared s))
unfolding read_step Bare.read_step
read_follows bounds l s inv good = rw (touchable_true inv good.permitted, bare_touchable inv good.permitted) (go bounds)
  where
    go : (b : Bool) → Follows datum_value (ok (contents b s l.at) (noted (loaded l.at l.access) s)) (Bare.ok (word s.values l.at) (bared s))
    go true = both_ok
    go false = both_ok

cast_follows : (keeps : Bool) (p : Datum) (s : State) → Follows datum_value (cast_step keeps p s) (Bare.cast_step p.value (bared s))
cast_follows true p s = both_ok
cast_follows false p s = both_ok

malloc_follows : (x : Datum) (s : State) → Follows datum_value (malloc_step x s) (Bare.malloc_step x.value (bared s))
unfolding malloc_step Bare.malloc_step
malloc_follows x s = go (eqb x.value 0) (leb (s.unused + x.value) (length s.values))
  where
    go : (none fits : Bool)
        → Follows datum_value
        (if none then ok (unbounded 0) s else
        if fits then ok (block_pointer s.unused x.value) (with_block x.value s) else
        no_room s)
        (if none then Bare.ok 0 (bared s) else
        if fits then Bare.ok s.unused (Bare.with_block x.value (bared s)) else
        Bare.no_room (bared s))
    go true fits = both_ok
    go false true = both_ok
    go false false = both_no_room

-- The bare run makes neither check; where both are passed, the words that it asks about are permitted ones.
copy_follows : {vars len : ℕ} (n k : ℕ) (p q : Datum) (s : State) → 1 ≤ k → Inv vars len s → DatumOk vars p s → DatumOk vars q s
    → Follows datum_value (copy_step n k p q s) (Bare.copy_step k p.value q.value (bared s))
unfolding copy_step Bare.copy_step
copy_follows n k p q s some inv to from =
    bind_follows (λ v s₁. Bare.bind (Bare.ok q.value s₁) (Bare.copy_step k v)) (pointed_good n k p s some inv to) (pointed_follows n k p s)
    (λ a s₁ inv₁ more₁ a_ok.
    bind_follows (Bare.copy_step k a.at) (pointed_good n k q s₁ some inv₁ (record { sound = sound_later more₁.more from.sound })) (pointed_follows n k q s₁)
    (λ b s₂ inv₂ more₂ b_ok.
    let there = words_later more₂.more a_ok in
    rw (move_done inv₂ there b_ok, all_true k _ (λ i less. and_both _ _ (bare_touchable inv₂ (b_ok.each i less)) (bare_touchable inv₂ (there.each i less))))
    both_ok))

assign_step_follows : {vars len : ℕ} (bounds : Bool) (l : Location) (x : Datum) (s : State) → Inv vars len s → LocationOk vars l s
    → Follows (λ u. u) (assign_step bounds l x s) (Bare.assign_step l.at x.value (bared s))
unfolding assign_step Bare.assign_step
assign_step_follows bounds l x s inv good = rw (touchable_true inv good.permitted, bare_touchable inv good.permitted) (go bounds)
  where
    go : (b : Bool)
        → Follows (λ u. u) (ok (tt {0}) (noted (stored l.at l.access) (with_datum b l.at x s)))
        (Bare.ok (tt {0}) (Bare.with_values (set s.values l.at x.value) (bared s)))
    go true = both_ok
    go false = both_ok

-- ---- trees

module _ {vars len : ℕ} (most : len ≤ 65536) where
  mutual
    unfolding place_at Bare.place_at deref_step

    place_follows : {p : Place} → PlaceOk vars p → (s : State) → Inv vars len s → Follows location_word (place_at p s) (Bare.place_at p (bared s))
    place_follows (variable_ok h) s inv = both_ok
    place_follows (deref_ok {n = n} v) s inv = bind_follows _ (value_good v s inv) (value_follows v s inv) (λ p s' inv' more good. pointed_follows n 1 p s')
    place_follows (field_ok {n = n} {offset = o} {k = k} some v) s inv =
        bind_follows _ (value_good v s inv) (value_follows v s inv) (λ p s' inv' more good. field_follows n o k p s' most some inv' good)

    value_follows : {v : Value} → ValueOk vars v → (s : State) → Inv vars len s → Follows datum_value (value_at v s) (Bare.value_at v (bared s))
    value_follows number_ok s inv = both_ok
    value_follows (sum_ok a b) s inv =
        bind_follows _ (value_good a s inv) (value_follows a s inv)
        (λ p s' inv' more good. bind_follows _ (value_good b s' inv') (value_follows b s' inv') (λ x s'' inv'' more' good'. both_ok))
    value_follows (read_ok {bounds = b} p) s inv =
        bind_follows _ (place_good p s inv) (place_follows p s inv) (λ l s' inv' more good. read_follows b l s' inv' good)
    value_follows (address_ok p) s inv = bind_follows _ (place_good p s inv) (place_follows p s inv) (λ l s' inv' more good. both_ok)
    value_follows (cast_ok {keeps = k} v) s inv =
        bind_follows _ (value_good v s inv) (value_follows v s inv) (λ p s' inv' more good. cast_follows k p s')
    value_follows (malloc_ok v) s inv = bind_follows _ (value_good v s inv) (value_follows v s inv) (λ x s' inv' more good. malloc_follows x s')
    value_follows (copy_ok {n = n} {k = k} some a b) s inv =
        bind_follows _ (value_good a s inv) (value_follows a s inv)
        (λ p s' inv' more good.
        bind_follows _ (value_good b s' inv') (value_follows b s' inv')
        (λ q s'' inv'' more' good'. copy_follows n k p q s'' some inv'' (record { sound = sound_later more'.more good.sound }) good'))

  assign_follows : (bounds : Bool) {p : Place} {v : Value} → PlaceOk vars p → ValueOk vars v → (s : State) → Inv vars len s
      → Follows (λ u. u) (assign bounds p v s) (Bare.assign p v (bared s))
  unfolding assign Bare.assign
  assign_follows bounds p v s inv =
      bind_follows _ (place_good p s inv) (place_follows p s inv)
      (λ l s' inv' more place.
      bind_follows _ (value_good v s' inv') (value_follows v s' inv')
      (λ x s'' inv'' more' value. assign_step_follows bounds l x s'' inv'' (location_later more'.more place)))

-- ---- a whole run

-- The same of two runs. Of a bare run nothing is claimed where the fenced one aborts.
data RunFollows : Run → Bare.Run → Type 0 where
  both_done : {s : State} → RunFollows (ended done s) (Bare.ended Bare.done (bared s))
  both_out_of_memory : {c : ℕ} {s : State} → RunFollows (ended (out_of_memory c) s) (Bare.ended (Bare.out_of_memory c) (bared s))
  unclaimed_abort : {c : ℕ} {s : State} {r : Bare.Run} → RunFollows (ended (abort c) s) r

after_command_follows : (c : ℕ) {o : Outcome (Unit {0})} {o' : Bare.Outcome (Unit {0})} → Follows (λ u. u) o o' → RunFollows (after_command c o) (Bare.after_command c o')
after_command_follows c both_ok = both_done
after_command_follows c both_no_room = both_out_of_memory
after_command_follows c unclaimed = unclaimed_abort

commands_follow : {t : Words} {len : ℕ} → len ≤ 65536 → Passed t → (s : State) → Inv (count t variables) len s → (c : ℕ) → c ≤ count t commands
    → RunFollows (commands_below t c s) (Bare.commands_below t c (bared s))
unfolding commands_below Bare.commands_below command Bare.command
commands_follow most table s inv zero h = both_done
commands_follow {t} {len} most table s inv (suc c) h =
    go (commands_follow most table s inv c (omega arith)) (commands_ok table s inv c (omega arith)).inv
  where
    go : {r : Run} {r' : Bare.Run} → RunFollows r r' → Inv (count t variables) len r.state
        → RunFollows (then_command t c r.ending r.state) (Bare.then_command t c r'.ending r'.state)
    go both_done inv' =
        after_command_follows c (assign_follows most _ (command_ok table c h).place_tree (command_ok table c h).value_tree _ inv')
    go both_out_of_memory inv' = both_out_of_memory
    go unclaimed_abort inv' = unclaimed_abort

-- Registers are placed without a look at bounds.
register_bared : (v n : ℕ) (ws : Words) (s : State) → Bare.with_register v n ws (bared s) ≡ bared (with_register v n ws s)
register_bared v zero ws s = refl
register_bared v (suc n) ws s = refl

pub registers_bared : (l : Words) (i : ℕ) (s : State) → Bare.registers_below l i (bared s) ≡ bared (registers_below l i s)
unfolding registers_below Bare.registers_below
registers_bared l zero s = refl
registers_bared l (suc i) s =
    ap (Bare.with_register (register_variable l i) (register_length l i) (register_words l i)) (registers_bared l i s)
    ∙ register_bared (register_variable l i) (register_length l i) (register_words l i) (registers_below l i s)

pub begin_bared : (t inputs registers : Words) (len : ℕ) → Bare.begin t inputs registers len ≡ bared (begin t inputs registers len)
unfolding begin Bare.begin cleared Bare.cleared
begin_bared t inputs registers len = registers_bared registers (register_count registers) (cleared t inputs len)

run_follows : {t inputs registers : Words} {len bases ends : ℕ} → Begun t inputs registers len bases ends → RunFollows (run t inputs registers len) (Bare.run t inputs registers len)
unfolding run Bare.run
run_follows {t} {inputs} {registers} {len} b =
    rw (begin_bared t inputs registers len)
    (commands_follow b.lists.most b.table (begin t inputs registers len) (begin_inv b) (count t commands) (omega arith))

-- ---- a call

-- What is claimed of a bare call's result, from the answer and the values of the fenced call.
abbrev Claim : Answer → Words → Bare.Result → Type 0
Claim (refusal n p) values r = Unit {0}
Claim (ending done u) values r = r ≡ record { answer = Bare.ending Bare.done u; values = values }
Claim (ending (abort c) u) values r = Unit {0}
Claim (ending (out_of_memory c) u) values r = r ≡ record { answer = Bare.ending (Bare.out_of_memory c) u; values = values }
Claim (ending (stuck c) u) values r = Unit {0}

result_claim : {r : Run} {r' : Bare.Run} → RunFollows r r' → Claim (result_of r).answer r.state.values (Bare.result_of r')
result_claim both_done = refl
result_claim both_out_of_memory = refl
result_claim unclaimed_abort = tt

module _ (t inputs registers values bases ends list : Words) (same : length list ≡ length values) where
  -- The three lists of a begun run are equally long, so the one list is as long as each of them.
  bare_begun : call_fault t inputs registers (length values) (length bases) (length ends) ≡ passes → Bare.call_fault t inputs registers (length list) ≡ passes
  unfolding Bare.call_fault
  bare_begun e =
      let lists = (begun t inputs registers (length values) (length bases) (length ends) e).lists in
      rw same (rw (← lists.same_bases, ← lists.same_ends) at e)

  call_claim : Claim (call t inputs registers values bases ends).answer (call t inputs registers values bases ends).values (Bare.call t inputs registers list)
  unfolding call Bare.call
  call_claim = go (call_fault t inputs registers (length values) (length bases) (length ends)) refl
    where
      go : (v : Verdict) → call_fault t inputs registers (length values) (length bases) (length ends) ≡ v
          → Claim (call_by v t inputs registers values bases ends).answer (call_by v t inputs registers values bases ends).values (Bare.call t inputs registers list)
      go passes e = rw (bare_begun e, same) (result_claim (run_follows (begun t inputs registers (length values) (length bases) (length ends) e)))
      go (refused n p) e = tt

pub same_result : (t inputs registers values bases ends list : Words) → SameResult t inputs registers values bases ends list
same_result t inputs registers values bases ends list same =
    let claim = call_claim t inputs registers values bases ends list same in
    record { begun = bare_begun t inputs registers values bases ends list same; done = λ u e. rw e at claim; no_room = λ c u e. rw e at claim }
