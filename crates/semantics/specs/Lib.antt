-- Document 01 as definitions, in its order: the table, what is turned away, syntax trees, the steps, a whole call, the fence rule. The
-- registers that request 1 adds stand after the table; the explanations that request 4 asks for, after the fence rule and the log;
-- request 9's bare run and its agreement with the fenced one, last.
pub mod Words
pub mod Table
pub mod Registers
pub mod Check
pub mod Syntax
pub mod Rules
pub mod Run
pub mod Safety
pub mod Log
pub mod Explain
pub mod Bare
pub mod Agreement
pub mod ExampleTables
pub mod Examples
pub mod RefusalExamples
pub mod CallExamples
pub mod RunExamples
pub mod TreeExamples
pub mod ExplainExamples
pub mod LeftExamples
pub mod CopyExamples
pub mod MarkExamples
pub mod EditionExamples
pub mod BareExamples
pub mod BareRunExamples
pub mod BareStepExamples
