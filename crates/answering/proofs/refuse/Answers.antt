-- Call by call.
use Rattle.answering.proofs.AnsweringLaws.{refuse_identify, refuse_extract, refuse_engineer, refuse_step}
use Rattle.answering.proofs.refuse.Goals as goal

pub returns-in-Identify : goal.returns-in-Identify
returns-in-Identify c = refuse_identify _ _ _ c.in-Identify.is

pub returns-in-Extract : goal.returns-in-Extract
returns-in-Extract c = refuse_extract _ _ _ _ c.in-Extract.is

pub returns-in-Engineer : goal.returns-in-Engineer
returns-in-Engineer c = refuse_engineer _ _ _ _ c.in-Engineer.is

pub returns-in-LimitStep : goal.returns-in-LimitStep
returns-in-LimitStep c = refuse_step _ _ _ _ c.in-LimitStep.is
