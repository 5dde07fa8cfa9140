-- Each table of examples computes to what it says: those that document 01 prints and that requests 1 and 2 ask for (specs/Examples.antt), and
-- those that hold each sentence (specs/RefusalExamples.antt, CallExamples.antt, RunExamples.antt, TreeExamples.antt, ExplainExamples.antt, LeftExamples.antt,
-- CopyExamples.antt, MarkExamples.antt, EditionExamples.antt, BareExamples.antt, BareRunExamples.antt, BareStepExamples.antt). Last the check as it was
-- before request 7 (DepthExamples.antt).
use mathlib.Core.Bool.{true, false}
use mathlib.Core.Path.{◌≡◌, refl}
use mathlib.Core.List.{[], ◌∷◌, map}
use Rattle.semantics.specs.Words.{zeroed, words_from, moved, sum_below, any_below, all_below, seen_before, least_below, grow}
use Rattle.semantics.specs.Table.{edition, count_place, count, item_place, item, is_pointer, known_type, known_target, target, points_to_type, points_to_record, pointed_record, entry_below, field_total, first_field, field_type, field_count, field_offset, size_of, kind_of, node_kind, children, type_rule, types_below, node_type}
use Rattle.semantics.specs.Registers.{register_place, register_start}
use Rattle.semantics.specs.Check.{◌or_else◌, require, each, edition_fault, section_fault, words_over, record_fault, field_sum_fault, field_fault, pointer_fault, variable_fault, is_child, node_fault, command_fault, uses, use_fault, check, lengths_fit, input_fits, input_fault, arguments_fault, extent_fault, names_pointer, name_fault, room_fault, registers_fault, call_fault}
use Rattle.semantics.specs.Syntax.{step_of, tree_rule, trees_below, tree_of, place_of, value_of}
use Rattle.semantics.specs.Rules.{words_left, enough_left, checked, deref_step, field_step, touchable, read_step, takes_right, malloc_step, each_noted, move_step, copy_step, place_at, value_at, assign_step, assign}
use Rattle.semantics.specs.Run.{cleared, with_register, registers_below, begin, command, commands_below, run, call}
use Rattle.semantics.specs.Explain.{without_bounds, reason_of, block_start, first_word, newest_cause, explain}
use Rattle.semantics.specs.Bare as Bare
use Rattle.semantics.specs.ExampleTables.{judged, answered, Example, observed}
use Rattle.semantics.specs.Examples.{verdicts, refusals, runs, refused_lists, register_runs, record_runs}
use Rattle.semantics.specs.RefusalExamples.{sections, declarations, operands, node_types, copy_types, commands_and_uses}
use Rattle.semantics.specs.CallExamples.{arguments, register_lists, unequal_lists}
use Rattle.semantics.specs.RunExamples.{memory_runs, order_runs, place_runs, value_runs, malloc_runs, touched, touches}
use Rattle.semantics.specs.ExplainExamples.{Telling, tell, reasons, nodes_told, first_words, explained, whole_calls, logged, logs, reasoned, bare_checks, some_words, starts, at_ending, endings, at_endings}
use Rattle.semantics.specs.LeftExamples.{counted, numbers_left, left_runs}
use Rattle.semantics.specs.CopyExamples.{shifted, shifts, copy_runs, overlaps, copy_orders, copies_told}
use Rattle.semantics.specs.MarkExamples.{mark, marked_verdicts, marks, marked_requests, marked_refusals, marked_runs}
use Rattle.semantics.specs.EditionExamples.{int_runs, sum_runs, block_runs, added, additions, reads_and_casts, reads_and_casts_outcomes, assignments, assignments_outcomes, editions_told}
use Rattle.semantics.specs.BareExamples.{BareExample, bared, bare_refusals, lists_alone, bare_answered, bare_requests, same_runs, runs_past_aborts, steps_past_aborts, copies_past_aborts, editions_past_aborts, compared, beside_aborts}
use Rattle.semantics.specs.BareRunExamples.{outside_runs, stuck_runs, bare_copies, wrapping_runs, allocating_runs, plain_runs}
use Rattle.semantics.specs.BareStepExamples.{little, work, bare_values, perform, bare_assignments, reached, reaches, allocate, allocations, move, moves, bare_registered, partly, parts}
use Rattle.semantics.specs.TreeExamples.{every_kind, roots, trees_of, small, worked, values, copies, copies_outcomes, stepped, steps, registered, wild, wild_runs}
use Rattle.semantics.proofs.Depth.{deeper, node_fault_before, check_before}
use Rattle.semantics.proofs.DepthExamples.{measured, depths, judged_before, verdicts_before}

-- To unfold this is to unfold every definition that a call comes down to.
computed : Example → Example
unfolding observed zeroed words_from moved sum_below any_below all_below seen_before least_below grow edition count_place count item_place item is_pointer known_type known_target target points_to_type points_to_record pointed_record entry_below field_total first_field field_type field_count field_offset size_of kind_of node_kind children type_rule types_below node_type ◌or_else◌ require each edition_fault section_fault words_over record_fault field_sum_fault field_fault pointer_fault variable_fault is_child node_fault command_fault uses use_fault check lengths_fit input_fits input_fault arguments_fault register_place register_start extent_fault names_pointer name_fault room_fault registers_fault call_fault step_of tree_rule trees_below tree_of place_of value_of words_left enough_left checked deref_step field_step touchable read_step takes_right malloc_step each_noted move_step copy_step place_at assign_step assign cleared registers_below begin command commands_below run call
computed x = observed x

-- ---- Document 01's own, registers, and steps along records

pub verdicts_are_given : map judged verdicts ≡ verdicts
unfolding computed judged verdicts
verdicts_are_given = refl

pub refusals_are_given : map observed refusals ≡ refusals
unfolding computed refusals
refusals_are_given = refl

pub runs_end_as_printed : map observed runs ≡ runs
unfolding computed runs
runs_end_as_printed = refl

pub lists_are_refused : map observed refused_lists ≡ refused_lists
unfolding computed refused_lists
lists_are_refused = refl

pub register_runs_end_so : map observed register_runs ≡ register_runs
unfolding computed register_runs
register_runs_end_so = refl

pub record_runs_end_so : map observed record_runs ≡ record_runs
unfolding computed record_runs
record_runs_end_so = refl

-- ---- The check

pub sections_are_judged_so : map judged sections ≡ sections
unfolding computed judged sections
sections_are_judged_so = refl

pub declarations_are_judged_so : map judged declarations ≡ declarations
unfolding computed judged declarations
declarations_are_judged_so = refl

pub operands_are_judged_so : map judged operands ≡ operands
unfolding computed judged operands
operands_are_judged_so = refl

pub node_types_are_judged_so : map judged node_types ≡ node_types
unfolding computed judged node_types
node_types_are_judged_so = refl

pub copy_types_are_judged_so : map judged copy_types ≡ copy_types
unfolding computed judged copy_types
copy_types_are_judged_so = refl

pub commands_and_uses_are_judged_so : map judged commands_and_uses ≡ commands_and_uses
unfolding computed judged commands_and_uses
commands_and_uses_are_judged_so = refl

-- ---- What a call is refused for

pub arguments_are_judged_so : map answered arguments ≡ arguments
unfolding computed answered arguments
arguments_are_judged_so = refl

pub register_lists_are_judged_so : map answered register_lists ≡ register_lists
unfolding computed answered register_lists
register_lists_are_judged_so = refl

pub unequal_lists_are_refused : map observed unequal_lists ≡ unequal_lists
unfolding computed unequal_lists
unequal_lists_are_refused = refl

-- ---- Runs

pub memory_runs_end_so : map observed memory_runs ≡ memory_runs
unfolding computed memory_runs
memory_runs_end_so = refl

pub order_runs_end_so : map observed order_runs ≡ order_runs
unfolding computed order_runs
order_runs_end_so = refl

pub place_runs_end_so : map observed place_runs ≡ place_runs
unfolding computed place_runs
place_runs_end_so = refl

pub value_runs_end_so : map observed value_runs ≡ value_runs
unfolding computed value_runs
value_runs_end_so = refl

pub malloc_runs_end_so : map observed malloc_runs ≡ malloc_runs
unfolding computed malloc_runs
malloc_runs_end_so = refl

pub touches_have_rules_so : map touched touches ≡ touches
unfolding computed touched touches
touches_have_rules_so = refl

pub trees_grow_so : map (tree_of every_kind) roots ≡ trees_of false
unfolding computed trees_of
trees_grow_so = refl

pub registers_are_set_so : with_register 1 0 [] small ∷ with_register 1 1 (70 ∷ []) small ∷ with_register 1 2 (70 ∷ 80 ∷ []) small ∷ [] ≡ registered
unfolding computed registered
registers_are_set_so = refl

pub values_are_worked_out_so : map worked values ≡ values
unfolding computed worked values
values_are_worked_out_so = refl

pub copies_come_out_so : map (λ v. value_at v small) copies ≡ copies_outcomes
unfolding computed copies_outcomes
copies_come_out_so = refl

pub steps_come_out_so : map stepped steps ≡ steps
unfolding computed stepped steps
steps_come_out_so = refl

pub wild_runs_end_so : map wild wild_runs ≡ wild_runs
unfolding computed wild wild_runs
wild_runs_end_so = refl

-- ---- How many words are left

pub words_are_counted_so : map counted numbers_left ≡ numbers_left
unfolding computed counted numbers_left
words_are_counted_so = refl

pub left_runs_end_so : map observed left_runs ≡ left_runs
unfolding computed left_runs
left_runs_end_so = refl

-- ---- Explanations

-- To unfold this is to unfold every definition that an explanation comes down to.
accounted : Telling → Telling
unfolding computed tell without_bounds reason_of block_start first_word newest_cause explain
accounted c = tell c

pub reasons_are_told_so : map tell reasons ≡ reasons
unfolding accounted computed reasons
reasons_are_told_so = refl

pub nodes_are_told_so : map tell nodes_told ≡ nodes_told
unfolding accounted computed nodes_told
nodes_are_told_so = refl

pub first_words_are_told_so : map tell first_words ≡ first_words
unfolding accounted computed first_words
first_words_are_told_so = refl

pub whole_calls_are_explained_so : map explained whole_calls ≡ whole_calls
unfolding accounted computed explained whole_calls
whole_calls_are_explained_so = refl

pub events_are_logged_so : map logged logs ≡ logs
unfolding computed logged logs
events_are_logged_so = refl

pub bare_checks_are_reasoned_so : map reasoned bare_checks ≡ bare_checks
unfolding accounted reasoned bare_checks
bare_checks_are_reasoned_so = refl

pub blocks_start_so : map starts some_words ≡ 0 ∷ 0 ∷ 10 ∷ 10 ∷ 0 ∷ 0 ∷ 20 ∷ 20 ∷ 0 ∷ []
unfolding accounted starts
blocks_start_so = refl

pub endings_are_told_so : map at_ending endings ≡ at_endings
unfolding accounted at_ending
endings_are_told_so = refl

-- ---- Whole records copied

pub lists_are_shifted_so : map shifted shifts ≡ shifts
unfolding computed shifted shifts
lists_are_shifted_so = refl

pub copy_runs_end_so : map observed copy_runs ≡ copy_runs
unfolding computed copy_runs
copy_runs_end_so = refl

pub overlaps_end_so : map observed overlaps ≡ overlaps
unfolding computed overlaps
overlaps_end_so = refl

pub copy_orders_end_so : map observed copy_orders ≡ copy_orders
unfolding computed copy_orders
copy_orders_end_so = refl

pub copies_are_told_so : map tell copies_told ≡ copies_told
unfolding accounted computed copies_told
copies_are_told_so = refl

-- ---- Editions

pub marked_verdicts_are_given : map judged marked_verdicts ≡ marked_verdicts
unfolding computed judged verdicts marked_verdicts
marked_verdicts_are_given = refl

pub marks_are_judged_so : map judged marks ≡ marks
unfolding computed judged verdicts marks
marks_are_judged_so = refl

pub marked_requests_are_judged_so : map answered marked_requests ≡ marked_requests
unfolding computed answered arguments register_lists marked_requests
marked_requests_are_judged_so = refl

pub marked_refusals_are_given : map observed marked_refusals ≡ marked_refusals
unfolding computed refusals refused_lists unequal_lists marked_refusals
marked_refusals_are_given = refl

pub marked_runs_end_so : map observed marked_runs ≡ marked_runs
unfolding computed runs register_runs marked_runs
marked_runs_end_so = refl

pub int_runs_end_so : map observed int_runs ≡ int_runs
unfolding computed int_runs
int_runs_end_so = refl

pub sum_runs_end_so : map observed sum_runs ≡ sum_runs
unfolding computed sum_runs
sum_runs_end_so = refl

pub block_runs_end_so : map observed block_runs ≡ block_runs
unfolding computed block_runs
block_runs_end_so = refl

pub additions_come_out_so : map added additions ≡ additions
unfolding computed added additions
additions_come_out_so = refl

pub reads_and_casts_come_out_so : reads_and_casts ≡ reads_and_casts_outcomes
unfolding computed reads_and_casts_outcomes
reads_and_casts_come_out_so = refl

pub assignments_come_out_so : assignments ≡ assignments_outcomes
unfolding computed assignments_outcomes
assignments_come_out_so = refl

pub marked_trees_grow_so : map (tree_of (mark every_kind)) roots ≡ trees_of true
unfolding computed trees_of
marked_trees_grow_so = refl

pub editions_are_told_so : map tell editions_told ≡ editions_told
unfolding accounted computed editions_told
editions_are_told_so = refl

-- ---- The bare run

-- To unfold this is to unfold every definition that a bare call comes down to.
unfenced : BareExample → BareExample
unfolding computed bared Bare.touchable Bare.read_step Bare.malloc_step Bare.copy_step Bare.place_at Bare.assign_step Bare.assign Bare.cleared Bare.registers_below Bare.begin Bare.command Bare.commands_below Bare.run Bare.call_fault Bare.call
unfenced x = bared x

pub bare_refusals_are_given : map bared bare_refusals ≡ bare_refusals
unfolding unfenced computed refusals refused_lists unequal_lists marked_refusals bare_refusals
bare_refusals_are_given = refl

pub lists_alone_are_judged_so : map bared lists_alone ≡ lists_alone
unfolding unfenced computed refusals refused_lists unequal_lists marked_refusals lists_alone
lists_alone_are_judged_so = refl

pub bare_requests_are_judged_so : map bare_answered bare_requests ≡ bare_requests
unfolding unfenced computed bare_answered arguments register_lists bare_requests
bare_requests_are_judged_so = refl

pub same_runs_end_so : map bared same_runs ≡ same_runs
unfolding unfenced computed runs register_runs marked_runs malloc_runs copy_orders same_runs
same_runs_end_so = refl

pub runs_go_past_aborts : map bared runs_past_aborts ≡ runs_past_aborts
unfolding unfenced computed runs register_runs marked_runs record_runs runs_past_aborts
runs_go_past_aborts = refl

pub steps_go_past_aborts : map bared steps_past_aborts ≡ steps_past_aborts
unfolding unfenced computed order_runs place_runs steps_past_aborts
steps_go_past_aborts = refl

pub copies_go_past_aborts : map bared copies_past_aborts ≡ copies_past_aborts
unfolding unfenced computed copy_runs copy_orders copies_past_aborts
copies_go_past_aborts = refl

pub editions_go_past_aborts : map bared editions_past_aborts ≡ editions_past_aborts
unfolding unfenced computed int_runs sum_runs block_runs editions_past_aborts
editions_go_past_aborts = refl

pub aborts_compare_so : map compared beside_aborts ≡ beside_aborts
unfolding unfenced computed compared beside_aborts
aborts_compare_so = refl

pub outside_runs_end_so : map bared outside_runs ≡ outside_runs
unfolding unfenced computed outside_runs
outside_runs_end_so = refl

pub stuck_runs_end_so : map bared stuck_runs ≡ stuck_runs
unfolding unfenced computed stuck_runs
stuck_runs_end_so = refl

pub bare_copies_end_so : map bared bare_copies ≡ bare_copies
unfolding unfenced computed bare_copies
bare_copies_end_so = refl

pub wrapping_runs_end_so : map bared wrapping_runs ≡ wrapping_runs
unfolding unfenced computed wrapping_runs
wrapping_runs_end_so = refl

pub allocating_runs_end_so : map bared allocating_runs ≡ allocating_runs
unfolding unfenced computed allocating_runs
allocating_runs_end_so = refl

pub plain_runs_end_so : map bared plain_runs ≡ plain_runs
unfolding unfenced computed plain_runs
plain_runs_end_so = refl

pub bare_values_are_worked_out_so : map work bare_values ≡ bare_values
unfolding unfenced computed work bare_values
bare_values_are_worked_out_so = refl

pub bare_assignments_come_out_so : map perform bare_assignments ≡ bare_assignments
unfolding unfenced computed perform bare_assignments
bare_assignments_come_out_so = refl

pub words_are_reached_so : map reached reaches ≡ reaches
unfolding unfenced reached reaches
words_are_reached_so = refl

pub words_are_allocated_so : map allocate allocations ≡ allocations
unfolding unfenced computed allocate allocations
words_are_allocated_so = refl

pub words_are_moved_so : map move moves ≡ moves
unfolding unfenced computed move moves
words_are_moved_so = refl

pub bare_registers_are_set_so : Bare.with_register 1 0 [] little ∷ Bare.with_register 1 1 (70 ∷ []) little ∷ Bare.with_register 1 2 (70 ∷ 80 ∷ []) little ∷ [] ≡ bare_registered
unfolding bare_registered
bare_registers_are_set_so = refl

pub parts_run_so : map partly parts ≡ parts
unfolding unfenced computed partly parts
parts_run_so = refl

-- ---- The check as it was before request 7

pub depths_are_measured_so : map measured depths ≡ depths
unfolding computed deeper measured depths
depths_are_measured_so = refl

pub tables_were_judged_so : map judged_before verdicts_before ≡ verdicts_before
unfolding computed deeper node_fault_before check_before judged_before verdicts_before
tables_were_judged_so = refl
