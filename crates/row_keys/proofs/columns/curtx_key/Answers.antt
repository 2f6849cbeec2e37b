-- Each category's arm is the definition's case for it.
use Rattle.row_keys.proofs.columns.curtx_key.Goals as goal

pub returns-in-Numeric : goal.returns-in-Numeric
returns-in-Numeric c = rw c.in-Numeric.is c.curve_key.ensures.0

pub returns-in-Status : goal.returns-in-Status
returns-in-Status c = rw c.in-Status.is c.texts_key.ensures.0

pub returns-in-Text : goal.returns-in-Text
returns-in-Text c = rw c.in-Text.is c.curve_key-in-Text.ensures.0
