-- The items that the functions put, as the lines of specs/.
use Prim.Native.Nat.{ℕ, ◌≤◌}
use mathlib.Core.List.{List}
use mathlib.Core.Path.{◌≡◌, refl}
use native.Mathlib.Omega.{arith}
use Rattle.semantics.specs.Run as semantics
use Rattle.semantics.specs.Run.{refusal, ending, done, abort, out_of_memory, stuck}
use Rattle.text.specs.declared.Output.{Output}
use Rattle.stream.specs.Items.{Item, Prints, item_room, room_of}
use Rattle.lines.specs.Lines.{ending_line, word_line}

-- ---- the room that the lines take

pub word_room : (address value base end : ℕ) → room_of (word_line address value base end) ≡ 84
unfolding room_of item_room word_line
word_room address value base end = refl

pub ending_room : (a : semantics.Answer) → room_of (ending_line a) ≤ 49
unfolding room_of item_room ending_line
ending_room (refusal n p) = omega arith
ending_room (ending done u) = omega arith
ending_room (ending (abort c) u) = omega arith
ending_room (ending (out_of_memory c) u) = omega arith
ending_room (ending (stuck c) u) = omega arith
