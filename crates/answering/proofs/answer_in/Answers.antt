-- Call by call.
use Rattle.answering.proofs.AnsweringLaws.{answer_identify, answer_extract, answer_engineer, answer_step}
use Rattle.answering.proofs.answer_in.Goals as goal

pub returns-in-Identify : goal.returns-in-Identify
returns-in-Identify c = answer_identify _ _ _ c.in-Identify.is _ c.identify_in.ensures

pub returns-in-Extract : goal.returns-in-Extract
returns-in-Extract c = answer_extract _ _ _ _ c.in-Extract.is _ c.extract_in.ensures

pub returns-in-Engineer : goal.returns-in-Engineer
returns-in-Engineer c = answer_engineer _ _ _ _ c.in-Engineer.is _ c.engineer_in.ensures

pub returns-in-LimitStep : goal.returns-in-LimitStep
returns-in-LimitStep c = answer_step _ _ _ _ c.in-LimitStep.is _ c.step_in.ensures
