-- What is printed, computed: for each reason, each owner of bounds, and each ending.
use Prim.Native.Nat.{ℕ}
use mathlib.Core.List.{List, [], ◌∷◌, map}
use mathlib.Core.Path.{◌≡◌, refl}
use Rattle.semantics.specs.Words.{Words, sum_below, least_below}
use Rattle.semantics.specs.Table.{edition, count_place, count, item_place, item}
use Rattle.semantics.specs.Registers.{register_place, register_start}
use Rattle.text.specs.Decimal.{last_digits}
use Rattle.stream.specs.Items.{item_bytes, bytes_of}
use Rattle.lines.specs.Lines.{ending_line}
use Rattle.machine.specs.declared.Cause.{Cause}
use Rattle.std.specs.Prelude.{Result, Ok, Err}
use Rattle.layout.specs.declared.Refusal.{Refusal}
use Rattle.layout.specs.declared.Fault.TheVariants.{Types}
use Rattle.machine.specs.declared.Reason.{Reason}
use Rattle.machine.specs.declared.Reason.TheVariants.{NoBounds, BeforeBase, PastEnd}
use Rattle.commands.specs.declared.Ending.{Ending}
use Rattle.commands.specs.declared.Ending.TheVariants.{Done, Abort, NoRoom}
use Rattle.why.specs.Ascii.{ascii}
use Rattle.why.specs.Owners.{register_with, owner_above, owner_of}
use Rattle.why.specs.Told.{owner_text, kind_text, node_text, wanted_text, bounds_text, reason_text, cause_line, ended_line, not_aborted_lines, told_lines}

-- Two variables; node 1 is a follow, node 2 a field, node 3 a copy.
abbrev table : Words
table = 0 ∷ 0 ∷ 0 ∷ 2 ∷ 2 ∷ 2 ∷ 4 ∷ 1 ∷ 0 ∷ 0 ∷ 2 ∷ 0 ∷ 0 ∷ 3 ∷ 0 ∷ 0 ∷ 11 ∷ 1 ∷ 2 ∷ 0 ∷ []

-- Register 0 is variable 1's and has no words; register 1 is variable 0's and begins at word 3.
abbrev registers : Words
registers = 2 ∷ 1 ∷ 0 ∷ 0 ∷ 2 ∷ 8 ∷ 9 ∷ []

abbrev cause : (node place words base end : ℕ) → Reason → ℕ → Cause
cause n p k b e r f = record { node = n; place = p; words = k; base = b; end = e; reason = r; first = f }

abbrev printed : Result (Ending Cause) Refusal → List ℕ
printed e = bytes_of (told_lines table registers e)

-- Bounds in a block, in a register, in a variable, and none; then the other endings.
so_it_reads : map printed
    (Ok (Abort 4 7 (cause 1 7 1 5 7 PastEnd 5))
    ∷ Ok (Abort 0 5 (cause 2 2 2 3 5 BeforeBase 3))
    ∷ Ok (Abort 1 5 (cause 1 3 1 2 3 PastEnd 2))
    ∷ Ok (Abort 1 5 (cause 2 4294967298 3 0 0 NoBounds 0))
    ∷ Ok (Abort 3 9 (cause 3 6 4 5 9 PastEnd 5))
    ∷ Ok (Done 5)
    ∷ Ok (NoRoom 2 7)
    ∷ Err (record { fault = Types; place = 29 })
    ∷ [])
    ≡ map ascii
    ("abort 4 7\ncommand 4, node 1 (a follow): wanted 1 word at 7, past the end of the pointer's bounds [5, 7), in the block at 5\n"
    ∷ "abort 0 5\ncommand 0, node 2 (a field): wanted 2 words at 2, before the base of the pointer's bounds [3, 5), in register 1 of variable 0\n"
    ∷ "abort 1 5\ncommand 1, node 1 (a follow): wanted 1 word at 3, past the end of the pointer's bounds [2, 3), in variable 1\n"
    ∷ "abort 1 5\ncommand 1, node 2 (a field): wanted 3 words at 4294967298, but the pointer has no bounds\n"
    ∷ "abort 3 9\ncommand 3, node 3 (a copy): wanted 4 words at 6, past the end of the pointer's bounds [5, 9), in the block at 5\n"
    ∷ "done 5\nthe run did not abort\n"
    ∷ "noroom 2 7\nthe run did not abort\n"
    ∷ "refused 8 29\n"
    ∷ [])
unfolding sum_below least_below edition count_place count item_place item register_place register_start last_digits item_bytes bytes_of ending_line ascii register_with owner_above owner_of owner_text kind_text node_text wanted_text bounds_text reason_text cause_line ended_line not_aborted_lines told_lines
so_it_reads = refl
