-- `registers::check_registers` meets its contract. Assumes nothing.
use Rattle.std.proofs.Common.{sym, ◌∙◌, arith}
use Rattle.layout.proofs.Laws.{verdict_on}
use Rattle.semantics.proofs.Registers.{whole}
use Rattle.registers.proofs.Lists.{extent_refused, names_refused, room_judged}
use Rattle.registers.proofs.check_registers.Goals as goal

pub returns-in_err-check_extent : goal.returns-in_err-check_extent
returns-in_err-check_extent c = verdict_on c.from_residual.result _ c.from_residual.ensures.1 (extent_refused _ _ _ c.in_err-check_extent.ensures)

pub check_names-requires : goal.check_names-requires
check_names-requires c = (c.requires.0, whole _ (sym c.in_ok-check_extent.ensures))

pub returns-in_err-check_names : goal.returns-in_err-check_names
returns-in_err-check_names c =
    verdict_on c.from_residual-in_err-check_names.result _ c.from_residual-in_err-check_names.ensures.1 (names_refused _ _ _ c.in_ok-check_extent.ensures c.in_err-check_names.ensures)

pub check_room-requires : goal.check_room-requires
check_room-requires c = (whole _ (sym c.in_ok-check_extent.ensures), omega (arith, c.requires.0.total, c.requires.1), omega (arith, c.requires.1))

pub returns : goal.returns
returns c = c.check_room.ensures ∙ room_judged _ _ _ c.in_ok-check_extent.ensures c.in_ok-check_names.ensures (omega (arith, c.requires.0.total))
