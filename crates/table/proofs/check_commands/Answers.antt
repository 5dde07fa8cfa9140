-- `table::check_commands` meets its contract.
use Rattle.std.proofs.Common.{arith, refl, sym, ◌∙◌, get_or, []}
use Rattle.semantics.specs.Words.{word}
use Rattle.semantics.specs.Check.{each}
use Rattle.layout.proofs.Laws.{refusal_on, each_more, each_refuses}
use Rattle.table.proofs.Uses.{counted_few}
use Rattle.table.proofs.Commands.{command_children, place_word, value_word, by_words, counted_none, counted_more, few_more}
use Rattle.table.proofs.check_commands.Goals as goal

pub loop-c-init : goal.loop-c-init
unfolding each
loop-c-init c = record { pass = refl; counted = counted_none _ _ }

pub returns-in_err-check_command : goal.returns-in_err-check_command
returns-in_err-check_command c =
    let h = c.requires.0 in
    let k = c.requires.1 in
    let words = c.entries-x-items.ensures.same c.loop-c.c in
    let fault = by_words h c.loop-c.c (words 0 (omega arith) (omega arith)) (words 1 (omega arith) (omega arith)) in
    refusal_on c.from_residual.result _ c.from_residual.ensures.1
    (each_refuses _ _ c.loop-c.invariant.pass _ (omega (arith, h.total)) (sym fault ∙ sym (c.in_err-check_command.ensures _ k.noted_to k.all)))

pub count_use-requires : goal.count_use-requires
count_use-requires c =
    let k = c.requires.1 in
    let x = word (get_or c.entries-x-items.result.now c.loop-c.c []) 0 in
    record {
      room = c.loop-c.invariant.counted.all ∙ k.room;
      inside = omega (arith, (command_children _ _ _ _ (sym (c.in_ok-check_command.ensures _ k.noted_to k.all))).0, k.all, k.few_nodes);
      few = omega (arith, few_more c.loop-c.invariant.counted x, k.few x, c.requires.0.limited);
    }

pub count_use-requires-in-loop-c : goal.count_use-requires-in-loop-c
count_use-requires-in-loop-c c =
    let k = c.requires.1 in
    let v = word (get_or c.entries-x-items.result.now c.loop-c.c []) 1 in
    record {
      room = c.count_use.ensures.all ∙ c.loop-c.invariant.counted.all ∙ k.room;
      inside = omega (arith, (command_children _ _ _ _ (sym (c.in_ok-check_command.ensures _ k.noted_to k.all))).1, k.all, k.few_nodes);
      few = omega (arith, counted_few c.count_use.ensures v, few_more c.loop-c.invariant.counted v, k.few v, c.requires.0.limited);
    }

pub loop-c-preserved : goal.loop-c-preserved
loop-c-preserved c =
    let h = c.requires.0 in
    let k = c.requires.1 in
    let words = c.entries-x-items.ensures.same c.loop-c.c in
    let x = words 0 (omega arith) (omega arith) in
    let v = words 1 (omega arith) (omega arith) in
    record {
      pass = each_more _ _ c.loop-c.invariant.pass (sym (by_words h c.loop-c.c x v) ∙ sym (c.in_ok-check_command.ensures _ k.noted_to k.all));
      counted = counted_more c.loop-c.invariant.counted c.count_use.ensures c.count_use-in-loop-c.ensures (place_word h c.loop-c.c x) (value_word h c.loop-c.c v);
    }
