-- The sections stand where the layout says, so that the commands are the table's.
use Rattle.machine.proofs.Calls.{commands_stand}
use Rattle.machine.proofs.run_bare_commands.Goals as goal

pub execute-requires : goal.execute-requires
execute-requires c =
    record {
      lists_of = c.lists.ensures;
      stands = commands_stand c.args.p.now.passed c.args.p.now.laid_out;
      room = c.requires.room;
      most = c.requires.most;
    }
