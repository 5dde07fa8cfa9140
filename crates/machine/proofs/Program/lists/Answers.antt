-- The sections stand where the layout says, so that the lists are the table's.
use Rattle.std.proofs.Common.{refl, arith}
use Rattle.machine.proofs.Calls.{fields_stand, pointers_stand, nodes_stand, lists_are}
use Rattle.machine.proofs.Program.lists.Goals as goal

pub offset_bounds-t-nodes_at : goal.offset_bounds-t-nodes_at
offset_bounds-t-nodes_at c = omega (arith, (nodes_stand c.args.self.now.passed c.args.self.now.laid_out).extent)

pub slice_bounds-result-count : goal.slice_bounds-result-count
slice_bounds-result-count c = omega (arith, (nodes_stand c.args.self.now.passed c.args.self.now.laid_out).extent)

pub slice_bounds-result-start : goal.slice_bounds-result-start
slice_bounds-result-start c = omega (arith, (nodes_stand c.args.self.now.passed c.args.self.now.laid_out).extent)

pub offset_bounds-t-pointers_at : goal.offset_bounds-t-pointers_at
offset_bounds-t-pointers_at c = omega (arith, (pointers_stand c.args.self.now.passed c.args.self.now.laid_out).extent)

pub slice_bounds-result-count-2 : goal.slice_bounds-result-count-2
slice_bounds-result-count-2 c = omega (arith, (pointers_stand c.args.self.now.passed c.args.self.now.laid_out).extent)

pub slice_bounds-result-start-2 : goal.slice_bounds-result-start-2
slice_bounds-result-start-2 c = omega (arith, (pointers_stand c.args.self.now.passed c.args.self.now.laid_out).extent)

pub offset_bounds-t-fields_at : goal.offset_bounds-t-fields_at
offset_bounds-t-fields_at c = omega (arith, (fields_stand c.args.self.now.passed c.args.self.now.laid_out).extent)

pub slice_bounds-result-count-3 : goal.slice_bounds-result-count-3
slice_bounds-result-count-3 c = omega (arith, (fields_stand c.args.self.now.passed c.args.self.now.laid_out).extent)

pub slice_bounds-result-start-3 : goal.slice_bounds-result-start-3
slice_bounds-result-start-3 c = omega (arith, (fields_stand c.args.self.now.passed c.args.self.now.laid_out).extent)

pub returns : goal.returns
returns c = lists_are c.args.self.now.passed c.args.self.now.laid_out _ refl refl refl refl refl refl refl
