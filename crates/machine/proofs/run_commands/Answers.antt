-- The sections stand where the layout says, so that the commands are the table's.
use Rattle.machine.proofs.Calls.{commands_stand, told_executed}
use Rattle.machine.proofs.run_commands.Goals as goal

pub execute-requires : goal.execute-requires
execute-requires c =
    let p = c.requires in
    record {
      lists_of = c.lists.ensures;
      stands = commands_stand c.args.p.now.passed c.args.p.now.laid_out;
      log = p.log;
      inv = p.inv;
      most = p.most;
      from = p.from;
      upto = p.upto;
    }

pub returns : goal.returns
returns c = told_executed c.execute.ensures c.told.ensures
