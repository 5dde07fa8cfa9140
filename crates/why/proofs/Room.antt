-- The room that the lines take: at most 512 bytes.
use Rattle.std.specs.Prelude.{if◌then◌else◌}
use Prim.Native.Nat.{ℕ, ◌≤◌}
use Prim.Native.String.{String}
use mathlib.Core.Bool.{Bool, true, false}
use mathlib.Core.List.{[], ◌∷◌, ◌++◌}
use native.Mathlib.Omega.{arith}
use lib.Dec.{eqb}
use Rattle.stream.specs.Items.{item_room, room_of}
use Rattle.stream.proofs.Items.{room_both}
use Rattle.lines.specs.Lines.{line_end, ending_line}
use Rattle.lines.proofs.Lines.{ending_room}
use Rattle.semantics.specs.Words.{Words}
use Rattle.semantics.specs.Table.{nodes, variables, count, item}
use Rattle.semantics.specs.Run.{Answer, refusal, ending, done, abort, out_of_memory}
use Rattle.semantics.specs.Explain.{Cause}
use Rattle.machine.specs.Explain.{cause_told}
use Rattle.std.specs.Prelude.{Result, Ok, Err}
use Rattle.layout.specs.Refusals.{number_of}
use Rattle.layout.specs.declared.Refusal.{Refusal}
use Rattle.machine.specs.declared.Cause as machine
use Rattle.commands.specs.declared.Ending.{Ending}
use Rattle.commands.specs.declared.Ending.TheVariants.{Done, Abort, NoRoom}
use Rattle.why.specs.Ascii.{ascii}
use Rattle.why.specs.Owners.{owner_of}
use Rattle.why.specs.Told.{text, either, owner_text, kind_text, node_text, wanted_text, bounds_text, reason_text, cause_line, ended_line, not_aborted_lines, told_lines}
use Rattle.why.specs.declared.Owner.{Owner}
use Rattle.why.specs.declared.Owner.TheVariants.{Variable, Register, Block}

owner_room : (o : Owner) → room_of (owner_text o) ≤ 64
unfolding room_of item_room owner_text ascii
owner_room (Variable i) = omega arith
owner_room (Register i v) = omega arith
owner_room (Block w) = omega arith

-- One of two texts.
either_room : (b : Bool) (s t : String) {n : ℕ} → item_room (text s) ≤ n → item_room (text t) ≤ n → item_room (either b s t) ≤ n
either_room true s t h k = h
either_room false s t h k = k

kind_room : (kind : ℕ) → room_of (kind_text kind) ≤ 11
unfolding room_of item_room kind_text ascii
kind_room kind = go (eqb kind 11)
  where
    go : (b : Bool) → room_of (if b then text " (a copy)" ∷ [] else either (eqb kind 3) " (a field)" " (a follow)" ∷ []) ≤ 11
    go true = omega arith
    go false = omega (arith, either_room (eqb kind 3) " (a field)" " (a follow)" {n = 11} (omega arith) (omega arith))

node_room : (command node kind : ℕ) → room_of (node_text command node kind) ≤ 80
unfolding room_of item_room node_text ascii
node_room command node kind = omega (arith, kind_room kind)

module _ (x : Cause) where
  wanted_room : room_of (wanted_text x) ≤ 80
  unfolding room_of item_room wanted_text ascii
  wanted_room = omega (arith, either_room (eqb x.check.words 1) " word at " " words at " {n = 10} (omega arith) (omega arith))

  bounds_room : room_of (bounds_text x) ≤ 100
  unfolding room_of item_room bounds_text ascii
  bounds_room = omega (arith, either_room (eqb x.reason 2) ", before the base" ", past the end" {n = 17} (omega arith) (omega arith))

  absent_room : room_of (text ", but the pointer has no bounds" ∷ []) ≤ 164
  unfolding room_of item_room ascii
  absent_room = omega arith

  outside_room : (o : Owner) → room_of (bounds_text x ++ owner_text o) ≤ 164
  outside_room o = rw room_both (omega (arith, bounds_room, owner_room o))

  reason_room : (vars : ℕ) (l : Words) → room_of (reason_text vars l x) ≤ 164
  unfolding reason_text
  reason_room vars l = go (eqb x.reason 1)
    where
      go : (b : Bool) → room_of (if b then text ", but the pointer has no bounds" ∷ [] else bounds_text x ++ owner_text (owner_of vars l x.first)) ≤ 164
      go true = absent_room
      go false = outside_room (owner_of vars l x.first)

  cause_room : (t l : Words) (command : ℕ) → room_of (cause_line t l command x) ≤ 325
  unfolding room_of item_room cause_line
  cause_room t l command =
      let node = node_text command x.check.node (item t nodes x.check.node 0) in
      let reason = reason_text (count t variables) l x in
      let last = room_both reason (line_end ∷ []) in
      let rest = room_both (wanted_text x) (reason ++ (line_end ∷ [])) in
      rw (room_both node) (omega (arith, node_room command x.check.node (item t nodes x.check.node 0), wanted_room, reason_room (count t variables) l))

ended_room : (a : Answer) → room_of (ended_line a) ≤ 50
unfolding room_of item_room ended_line
ended_room a = let both = room_both (ending_line a) (line_end ∷ []) in omega (arith, ending_room a)

not_aborted_room : (a : Answer) → room_of (not_aborted_lines a) ≤ 100
unfolding room_of item_room not_aborted_lines ascii
not_aborted_room a = let both = room_both (ended_line a) (text "the run did not abort\n" ∷ []) in omega (arith, ended_room a)

pub told_room : (t l : Words) (e : Result (Ending machine.Cause) Refusal) → room_of (told_lines t l e) ≤ 512
unfolding told_lines
told_room t l (Err r) = omega (arith, ended_room (refusal (number_of r.fault) r.place))
told_room t l (Ok (Done u)) = omega (arith, not_aborted_room (ending done u))
told_room t l (Ok (Abort c u x)) =
    let both = room_both (ended_line (ending (abort c) u)) (cause_line t l c (cause_told x)) in
    omega (arith, ended_room (ending (abort c) u), cause_room (cause_told x) t l c)
told_room t l (Ok (NoRoom c u)) = omega (arith, not_aborted_room (ending (out_of_memory c) u))
