-- Each table's constants, taken together, are its schema of the definitions.
use Rattle.schemas.specs.Tables.{schema, pid, pic, plf, pcf, caf, cap, txf, txp, ocf, ocp, mcf}
use Rattle.schemas.specs.Constants.{schema_from}
use Rattle.column_checks.specs.ColumnKinds.{kind_at, letters_at, lowests, highests}
use Rattle.schemas.proofs.coded.column_code.Goals as goal

pub returns-in-Pid : goal.returns-in-Pid
unfolding schema pid schema_from kind_at letters_at lowests highests
returns-in-Pid c = rw c.in-Pid.is c.code_at.ensures

pub returns-in-Pic : goal.returns-in-Pic
unfolding schema pic schema_from kind_at letters_at lowests highests
returns-in-Pic c = rw c.in-Pic.is c.code_at-in-Pic.ensures

pub returns-in-Plf : goal.returns-in-Plf
unfolding schema plf schema_from kind_at letters_at lowests highests
returns-in-Plf c = rw c.in-Plf.is c.code_at-in-Plf.ensures

pub returns-in-Pcf : goal.returns-in-Pcf
unfolding schema pcf schema_from kind_at letters_at lowests highests
returns-in-Pcf c = rw c.in-Pcf.is c.code_at-in-Pcf.ensures

pub returns-in-Caf : goal.returns-in-Caf
unfolding schema caf schema_from kind_at letters_at lowests highests
returns-in-Caf c = rw c.in-Caf.is c.code_at-in-Caf.ensures

pub returns-in-Cap : goal.returns-in-Cap
unfolding schema cap schema_from kind_at letters_at lowests highests
returns-in-Cap c = rw c.in-Cap.is c.code_at-in-Cap.ensures

pub returns-in-Txf : goal.returns-in-Txf
unfolding schema txf schema_from kind_at letters_at lowests highests
returns-in-Txf c = rw c.in-Txf.is c.code_at-in-Txf.ensures

pub returns-in-Txp : goal.returns-in-Txp
unfolding schema txp schema_from kind_at letters_at lowests highests
returns-in-Txp c = rw c.in-Txp.is c.code_at-in-Txp.ensures

pub returns-in-Ocf : goal.returns-in-Ocf
unfolding schema ocf schema_from kind_at letters_at lowests highests
returns-in-Ocf c = rw c.in-Ocf.is c.code_at-in-Ocf.ensures

pub returns-in-Ocp : goal.returns-in-Ocp
unfolding schema ocp schema_from kind_at letters_at lowests highests
returns-in-Ocp c = rw c.in-Ocp.is c.code_at-in-Ocp.ensures

pub returns-in-Mcf : goal.returns-in-Mcf
unfolding schema mcf schema_from kind_at letters_at lowests highests
returns-in-Mcf c = rw c.in-Mcf.is c.code_at-in-Mcf.ensures
