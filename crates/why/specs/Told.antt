-- What is printed for a person: how a call ended, and after a run why it aborted or that it did not.
use Rattle.std.specs.Prelude.{Result, Ok, Err, ℕ, ◌+◌, Bool, List, [], ◌∷◌, ◌++◌, ◌≡◌, eqb, length, take, drop, if◌then◌else◌}
use Prim.Native.String.{String}
use Rattle.semantics.specs.Words.{Words}
use Rattle.semantics.specs.Table.{nodes, variables, count, item}
use Rattle.semantics.specs.Run.{Answer, refusal, ending, done, abort, out_of_memory}
use Rattle.semantics.specs.Explain.{Cause, explain}
use Rattle.semantics.proofs.Registers.{Whole}
use Rattle.machine.specs.Explain.{cause_told, explained_of}
use Rattle.machine.specs.declared.Cause as machine
use Rattle.layout.specs.Refusals.{number_of}
use Rattle.layout.specs.declared.Refusal.{Refusal}
use Rattle.commands.specs.declared.Ending.{Ending}
use Rattle.commands.specs.declared.Ending.TheVariants.{Done, Abort, NoRoom}
use Rattle.stream.specs.Items.{Item, word, number, bytes_of}
use Rattle.steps.specs.Answers.{SameLists}
use Rattle.lines.specs.Lines.{line_end, ending_line}
use Rattle.text.specs.declared.Output.{Output}
use Rattle.steps.specs.declared.Memory.{Memory}
use Rattle.cases.specs.declared.Program.{Program}
use Rattle.why.specs.Ascii.{ascii}
use Rattle.why.specs.Owners.{owner_of}
use Rattle.why.specs.declared.Owner.{Owner}
use Rattle.why.specs.declared.Owner.TheVariants.{Variable, Register, Block}

abbrev pub text : String → Item
text s = word (ascii s)

-- One of two texts.
abbrev pub either : Bool → String → String → Item
either b s t = word (if b then ascii s else ascii t)

-- What the bounds lie in.
unfoldable pub owner_text : Owner → List Item
owner_text (Variable i) = text "variable " ∷ number i ∷ []
owner_text (Register i v) = text "register " ∷ number i ∷ text " of variable " ∷ number v ∷ []
owner_text (Block w) = text "the block at " ∷ number w ∷ []

-- A check is made by a follow, kind 2, by a field, kind 3, or by a copy, kind 11.
unfoldable pub kind_text : ℕ → List Item
kind_text kind = if eqb kind 11 then text " (a copy)" ∷ [] else either (eqb kind 3) " (a field)" " (a follow)" ∷ []

-- "the node"
unfoldable pub node_text : (command node kind : ℕ) → List Item
node_text command node kind = text "command " ∷ number command ∷ text ", node " ∷ number node ∷ kind_text kind

-- "the place wanted, the number of words wanted"
unfoldable pub wanted_text : Cause → List Item
wanted_text x =
    text ": wanted " ∷ number x.check.words ∷ either (eqb x.check.words 1) " word at " " words at " ∷ number x.check.at ∷ []

-- Reason 2 is "before the base", reason 3 "past the end".
abbrev pub side_text : ℕ → Item
side_text reason = either (eqb reason 2) ", before the base" ", past the end"

-- "the base and end".
unfoldable pub bounds_text : Cause → List Item
bounds_text x =
    side_text x.reason ∷ text " of the pointer's bounds [" ∷ number x.check.base ∷ text ", "
    ∷ number x.check.end ∷ text "), in " ∷ []

-- Reason 1 is "no bounds".
unfoldable pub reason_text : ℕ → Words → Cause → List Item
reason_text vars l x =
    if eqb x.reason 1
    then text ", but the pointer has no bounds" ∷ []
    else bounds_text x ++ owner_text (owner_of vars l x.first)

-- The line of an abort of this table, run with these registers, at this command.
unfoldable pub cause_line : Words → Words → ℕ → Cause → List Item
cause_line t l command x =
    node_text command x.check.node (item t nodes x.check.node 0) ++ (wanted_text x ++ (reason_text (count t variables) l x ++ (line_end ∷ [])))

-- As the bench program prints it.
unfoldable pub ended_line : Answer → List Item
ended_line a = ending_line a ++ (line_end ∷ [])

unfoldable pub not_aborted_lines : Answer → List Item
not_aborted_lines a = ended_line a ++ (text "the run did not abort\n" ∷ [])

-- All that is printed for a call.
unfoldable pub told_lines : Words → Words → Result (Ending machine.Cause) Refusal → List Item
told_lines t l (Err r) = ended_line (refusal (number_of r.fault) r.place)
told_lines t l (Ok (Done u)) = not_aborted_lines (ending done u)
told_lines t l (Ok (Abort c u x)) = ended_line (ending (abort c) u) ++ cause_line t l c (cause_told x)
told_lines t l (Ok (NoRoom c u)) = not_aborted_lines (ending (out_of_memory c) u)

-- The register list of a run that aborted is whole.
abbrev pub Walkable : Words → Result (Ending machine.Cause) Refusal → Type 0
Walkable l (Err r) = Unit {0}
Walkable l (Ok (Done u)) = Unit {0}
Walkable l (Ok (Abort c u x)) = Whole l
Walkable l (Ok (NoRoom c u)) = Unit {0}

-- A program was run in some lists and the run was explained, which left the lists as they are then, and the bytes of what is printed for it
-- stand in the output from its free place on.
pub record Tells (p : Program) (m : Memory) (out : Output) (m' : Memory) (out' : Output) : Type 0 where
  pub answer : Result (Ending machine.Cause) Refusal
  pub is : explained_of answer m'.values.now m'.bases.now m'.ends.now
      ≡ explain p.table.now p.inputs.now p.registers.now m.values.now m.bases.now m.ends.now
  pub same_lists : SameLists m m'
  pub same_bytes : out'.bytes.ghost_name ≡ out.bytes.ghost_name
  pub place : out'.at ≡ out.at + length (bytes_of (told_lines p.table.now p.registers.now answer))
  pub bytes : out'.bytes.now ≡ take out.at out.bytes.now ++ bytes_of (told_lines p.table.now p.registers.now answer) ++ drop out'.at out.bytes.now
