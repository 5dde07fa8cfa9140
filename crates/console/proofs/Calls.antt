-- Laws of what is printed: the loop over the memory, the bytes of a call, and what the lists of a call matter to them.
use Rattle.std.specs.Prelude.{Option, Some, None}
use Prim.Native.Nat.{ℕ, zero, suc, ◌+◌, ◌*◌, ◌-◌, ◌≤◌, ◌<◌}
use mathlib.Core.Bool.{true, false, false≢true}
use mathlib.Core.List.{List, [], ◌∷◌, ◌++◌}
use mathlib.Core.Path.{◌≡◌, refl, sym, ap, ◌∙◌}
use native.Mathlib.Omega.{arith}
use borrow.Author.Tests.{leb-true}
use lib.Dec.{leb}
use lib.ListN.{length, take, drop, get_or, replicate, length-replicate}
use lib.Seq.{length-take-le}
use Rattle.semantics.specs.Words.{Words}
use Rattle.semantics.specs.Check.{Verdict, passes, refused, call_fault}
use Rattle.semantics.specs.Run.{Answer, Result, call_by, call}
use Rattle.semantics.proofs.Safety.{spatial_safety, unused_fits}
use Rattle.stream.specs.Items.{item_room, room_of, Prints}
use Rattle.stream.proofs.Items.{room_both, prints_none, prints_word, prints_then}
use Rattle.text.specs.Decimal.{PutsIn}
use Rattle.text.specs.declared.Output.{Output}
use Rattle.text.specs.Scan.{Finishes}
use Rattle.text.specs.declared.Scanner.{Scanner}
use Rattle.request.specs.Request.{Demand, run, input, demand, stored, request_of, Parts, Requested}
use Rattle.request.proofs.Demands.{all_true, text_demand}
use Rattle.request.specs.declared.Request.{Request}
use Rattle.lines.proofs.Lines.{word_room, ending_room}
use Rattle.machine.specs.Run.{answer_of, Is}
use Rattle.std.specs.Prelude as std
use Rattle.layout.specs.declared.Refusal.{Refusal}
use Rattle.commands.specs.declared.Ending.{Ending}
use Rattle.lines.specs.Lines.{ending_line, unused, word_line}
use Rattle.console.specs.Output.{lines_to, memory_lines, answer_lines, input_line, result_bytes, Lists, lists, lists_of, call_in, output, over, lists_after, has_room, outcome_of, finished, answered, Answers, Holds, Printed, Called, Ran}
use Rattle.steps.specs.declared.Memory.{Memory}

-- ---- the loop over the memory

module _ (vs bs es : List ℕ) (unused : ℕ) (out₀ : Output) where
  -- The lines of the words 1 to i - 1 are put.
  pub record Printing (out : Output) (i : ℕ) : Type 0 where
    pub from : 1 ≤ i
    pub until : i - 1 ≤ unused - 1
    pub put : Prints (lines_to (i - 1) vs bs es) out₀ out

  pub printing_none : Printing out₀ 1
  unfolding lines_to
  printing_none = record { from = omega arith; until = omega arith; put = prints_none out₀ }

  pub printing_more : {out out' : Output} (i : ℕ) → Printing out i → i < unused → Prints (word_line i (get_or vs i 0) (get_or bs i 0) (get_or es i 0)) out out'
      → Printing out' (i + 1)
  unfolding lines_to
  printing_more zero p less puts = absurd (let h = p.from in omega arith)
  printing_more (suc n) p less puts =
      let here : suc n + 1 - 1 ≡ suc n = omega arith in
      let before : suc n - 1 ≡ n = omega arith in
      record { from = omega arith; until = omega arith; put = rw here (prints_then (rw before at p.put) puts) }

-- By the calls of `put_answer` in turn: `put_ending`, `put_bytes`, `unused_after` and `put_memory`.
pub prints_answer : (a : Answer) (vs bs es : Words) {out out₁ out₂ out₃ : Output} → Prints (ending_line a) out out₁ → PutsIn 1 (10 ∷ []) out₁ out₂
    → {u : ℕ} → u ≡ unused a → Prints (memory_lines u vs bs es) out₂ out₃ → Prints (answer_lines a vs bs es) out out₃
prints_answer a vs bs es first second e third = prints_then first (prints_then (prints_word second) (rw e at third))

-- ---- the room that the lines take

lines_room : (n : ℕ) (vs bs es : List ℕ) → room_of (lines_to n vs bs es) ≡ 84 * n
unfolding room_of lines_to
lines_room zero vs bs es = refl
lines_room (suc n) vs bs es =
    let here = word_room (suc n) (get_or vs (suc n) 0) (get_or bs (suc n) 0) (get_or es (suc n) 0) in
    let before = lines_room n vs bs es in
    rw room_both (omega arith)

-- An answer whose U is at most 4,096 fits in 84 bytes for each of 4,096 lines.
pub answer_room : (a : Answer) (vs bs es : List ℕ) → unused a ≤ 4096 → room_of (answer_lines a vs bs es) ≤ 344064
unfolding room_of item_room
answer_room a vs bs es h =
    let first = ending_room a in
    let words = lines_room (unused a - 1) vs bs es in
    rw room_both (omega arith)

-- ---- calls

-- U is in each of the lists that a call leaves.
pub record Fits (r : Result) (n : ℕ) : Type 0 where
  pub values : unused r.answer ≤ length r.values
  pub bases : unused r.answer ≤ length r.bases
  pub ends : unused r.answer ≤ length r.ends
  pub most : unused r.answer ≤ n

module _ (t inputs registers vs bs es : Words) where
  fits_by : (v : Verdict) → call_fault t inputs registers (length vs) (length bs) (length es) ≡ v → Fits (call_by v t inputs registers vs bs es) (length vs)
  unfolding unused
  fits_by (refused n p) e = record { values = omega arith; bases = omega arith; ends = omega arith; most = omega arith }
  fits_by passes e =
      let u = unused_fits t inputs registers vs bs es e in
      let l = (spatial_safety t inputs registers vs bs es e).lengths in
      let l0 = l.0 in
      let l1 = l.1 in
      let l2 = l.2 in
      record { values = omega arith; bases = omega arith; ends = omega arith; most = u }

  pub fits : Fits (call t inputs registers vs bs es) (length vs)
  unfolding call
  fits = fits_by (call_fault t inputs registers (length vs) (length bs) (length es)) refl

-- What `run_and_print` leaves, by its two calls: `machine::run` and `put_answer`.
module _ (c : Result) (n : ℕ) (f : Fits c n) (a : std.Result (Ending std.⊤) Refusal) (vs bs es : Words) (is : Is c a vs bs es) where
  pub in_memory : {m : Memory} → lists_of m ≡ lists vs bs es → Holds m (unused (answer_of a))
  in_memory {m} same =
      let v = f.values in
      let b = f.bases in
      let e = f.ends in
      let vl : length m.values.now ≡ length c.values = ap (λ l. length l.values) same ∙ ap length is.values in
      let bl : length m.bases.now ≡ length c.bases = ap (λ l. length l.bases) same ∙ ap length is.bases in
      let el : length m.ends.now ≡ length c.ends = ap (λ l. length l.ends) same ∙ ap length is.ends in
      let u : unused (answer_of a) ≡ unused c.answer = ap unused is.answer in
      record { values = omega arith; bases = omega arith; ends = omega arith }

  pub called : {out out' : Output} → n ≤ 4096 → 344064 ≤ length out.bytes.now → out.at ≡ 0 → Prints (answer_lines (answer_of a) vs bs es) out out'
      → Called c (lists vs bs es) out out'
  unfolding result_bytes
  called {out} {out'} small room front p =
      let u = f.most in
      let size = answer_room (answer_of a) vs bs es (rw is.answer (omega arith)) in
      let put = rw (is.answer, is.values, is.bases, is.ends) at (p.puts.fits (omega arith)) in
      let start : out.at + length (result_bytes c) ≡ length (result_bytes c) = omega arith in
      record {
        values = is.values;
        bases = is.bases;
        ends = is.ends;
        printed = record { same_bytes = p.same_bytes; printed = rw (start, front) at put.0; count = rw start at put.1 };
      }

-- What is printed depends on the length of the lists alone: a run clears them, and a refusal prints none of their words.
module _ (t inputs registers vs bs es vs' bs' es' : Words) (v_length : length vs ≡ length vs') (b_length : length bs ≡ length bs') (e_length : length es ≡ length es') where
  same_by : (v : Verdict) → result_bytes (call_by v t inputs registers vs bs es) ≡ result_bytes (call_by v t inputs registers vs' bs' es')
  unfolding result_bytes unused lines_to
  same_by passes = rw v_length
  same_by (refused n p) = refl

  pub same_bytes : result_bytes (call t inputs registers vs bs es) ≡ result_bytes (call t inputs registers vs' bs' es')
  unfolding call
  same_bytes = rw (v_length, b_length, e_length) (same_by (call_fault t inputs registers (length vs') (length bs') (length es')))

-- ---- a request for a run, in the first words of three lists

module _ (old new : Words) (memory : ℕ) (h : memory ≤ length old) (e : length new ≡ length (take memory old)) where
  front : new ++ drop memory old ≡ over new old
  front =
      let l = length-take-le memory old h in
      let place : memory ≡ length new = omega arith in
      ap (λ n. new ++ drop n old) place

module _ (t inputs vs bs es : Words) (memory : ℕ) (v : memory ≤ length vs) (b : memory ≤ length bs) (e : memory ≤ length es) where
  pub ran : {vs' bs' es' : Words} {out out' : Output} → Called (call t inputs (0 ∷ []) (take memory vs) (take memory bs) (take memory es)) (lists vs' bs' es') out out'
      → length vs' ≡ length (take memory vs) → length bs' ≡ length (take memory bs) → length es' ≡ length (take memory es)
      → Ran (call_in (lists vs bs es) memory inputs t) (lists vs bs es) (lists (vs' ++ drop memory vs) (bs' ++ drop memory bs) (es' ++ drop memory es)) out out'
  unfolding call_in
  ran {vs'} {bs'} {es'} c lv lb le =
      let front_v = front vs vs' memory v lv ∙ ap (λ l. over l vs) c.values in
      let front_b = front bs bs' memory b lb ∙ ap (λ l. over l bs) c.bases in
      let front_e = front es es' memory e le ∙ ap (λ l. over l es) c.ends in
      record { left = cc; printed = c.printed }

-- ---- an answer

-- What `own` memory prints, longer lists print too.
own_bytes : (l : Lists) (memory : ℕ) (inputs table : Words) → memory ≤ 4096 → memory ≤ length l.values → memory ≤ length l.bases → memory ≤ length l.ends
    → result_bytes (call_in l memory inputs table) ≡ output (run memory inputs table)
unfolding call_in output
own_bytes l memory inputs table m v b e =
    let o : length (take memory (replicate {A = ℕ} 4096 0)) ≡ memory = length-take-le memory (replicate 4096 0) (rw (length-replicate {A = ℕ}) m) in
    same_bytes table inputs (0 ∷ []) _ _ _ _ _ _ (length-take-le memory l.values v ∙ sym o) (length-take-le memory l.bases b ∙ sym o) (length-take-le memory l.ends e ∙ sym o)

pub room : (values bases ends out : ℕ) → has_room values bases ends out ≡ true → (4096 ≤ values) × (4096 ≤ bases) × (4096 ≤ ends) × (344064 ≤ out)
unfolding has_room
room values bases ends out e =
    let q = all_true (leb 4096 values) (leb 4096 bases) (leb 4096 ends) (leb 344064 out) e in
    (leb-true _ _ q.0, leb-true _ _ q.1, leb-true _ _ q.2, leb-true _ _ q.3)

asks_nothing : (d : Demand) → None ≡ request_of d → d ≡ input
asks_nothing input e = refl
asks_nothing (run memory inputs table) e = absurd cc

-- What `print_request` leaves, by what the numbers of a scanner ask for.
module _ (numbers : Words) (s : Scanner) {r : Option Request} (q : Requested numbers s r) where
  module _ {a : Request} (e : r ≡ Some a) where
    pub parts : Parts numbers s a.memory a.from
    parts = q.parts a e

    pub left_by_run : {l l' : Lists} {out out' : Output} → Ran (call_in l a.memory (take (a.from - 2) (drop 2 numbers)) (take (s.count - a.from) (drop a.from numbers))) l l' out out'
        → l' ≡ lists_after (demand (stored numbers s)) l
    unfolding lists_after
    left_by_run {l} c = c.left ∙ ap (λ d. lists_after d l) (sym parts.asked)

    pub printed_by_run : {m : Memory} {l' : Lists} {out out' : Output} → Holds m 4096
        → Ran (call_in (lists_of m) a.memory (take (a.from - 2) (drop 2 numbers)) (take (s.count - a.from) (drop a.from numbers))) (lists_of m) l' out out'
        → Printed (output (demand (stored numbers s))) out out'
    printed_by_run {m} h c =
        let most = parts.most in
        let v = h.values in
        let b = h.bases in
        let e = h.ends in
        let bytes =
        own_bytes (lists_of m) a.memory (take (a.from - 2) (drop 2 numbers)) (take (s.count - a.from) (drop a.from numbers)) most (omega arith) (omega arith) (omega arith)
        ∙ ap output (sym parts.asked) in
        rw bytes at c.printed

  module _ (e : r ≡ None) where
    nothing : demand (stored numbers s) ≡ input
    nothing = asks_nothing (demand (stored numbers s)) (sym e ∙ q.does)

    pub left_by_input : {l : Lists} → l ≡ lists_after (demand (stored numbers s)) l
    unfolding lists_after
    left_by_input {l} = ap (λ d. lists_after d l) (sym nothing)

    pub printed_by_input : {out out' : Output} → 344064 ≤ length out.bytes.now → out.at ≡ 0 → PutsIn 6 input_line out out' → Printed (output (demand (stored numbers s))) out out'
    unfolding output
    printed_by_input room first p =
        let put = rw first at (p.puts.fits (omega arith)) in
        rw nothing (record { same_bytes = p.same_bytes; printed = put.0; count = put.1 })

module _ (s : Scanner) (numbers : Words) (l : Lists) (out : List ℕ) where
  pub too_short : has_room (length l.values) (length l.bases) (length l.ends) (length out) ≡ false → Answers s numbers l out numbers l out None
  unfolding answered
  too_short e = record { does = rw e; meets = λ text k h room. absurd (false≢true (sym e ∙ room)) }

  -- By the calls of `finish` and `print_request`, in an output that is `out` lent.
  pub answers : has_room (length l.values) (length l.bases) (length l.ends) (length out) ≡ true → {s' : Scanner} {numbers' : Words} → Finishes s numbers s' numbers'
      → length numbers' ≡ length numbers → {l' : Lists} → l' ≡ lists_after (demand (stored numbers' s')) l
      → {page page' : Output} → Printed (output (demand (stored numbers' s'))) page page' → page.bytes.now ≡ out → {out' : List ℕ} → out' ≡ page'.bytes.now
      → Answers s numbers l out numbers' l' out' (Some page'.at)
  unfolding answered finished outcome_of
  answers has {s'} {numbers'} f same left {page} {page'} p start {out'} end =
      let put : out' ≡ over (output (demand (stored numbers' s'))) out = end ∙ (rw start at p.printed) in
      record {
        does = rw (has, ← f.does, p.count, left, put);
        meets =
            λ text k h room.
            let asked = text_demand numbers' s' text (rw same h) (f.meets text k) in
            (ap Some (p.count ∙ ap (λ d. length (output d)) asked), put ∙ ap (λ d. over (output d) out) asked);
      }
