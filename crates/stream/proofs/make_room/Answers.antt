use Rattle.std.proofs.Common.{arith}
use Rattle.stream.proofs.Parts.{room_made, room_left}
use Rattle.stream.proofs.make_room.Goals as goal
use Rattle.stream.proofs.make_room.Goals.{then-size-out-via-then-size-out, then-size-out-via-else-size-out+then-size-out-lt-ROOM}

pub returns-then-size-out : goal.returns-then-size-out
returns-then-size-out c =
    room_made c.flush.ensures
    (elim c.then-size-out.branch [ then-size-out-via-then-size-out w ↦ omega arith | then-size-out-via-else-size-out+then-size-out-lt-ROOM w ↦ omega arith ])

pub returns-else-size-out-lt-ROOM : goal.returns-else-size-out-lt-ROOM
returns-else-size-out-lt-ROOM c = room_left (omega arith)
