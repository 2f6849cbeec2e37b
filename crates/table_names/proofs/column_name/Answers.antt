-- Each table's own headings.
use Rattle.schemas.specs.declared.Table.TheVariants.{Pid, Pic, Plf, Pcf, Caf, Cap, Txf, Txp, Ocf, Ocp, Mcf}
use Rattle.table_names.specs.Headings.{column_name, headings}
use Rattle.table_names.proofs.HeadingLaws.{few}
use Rattle.table_names.proofs.column_name.Goals as goal

pub heading-requires : goal.heading-requires
unfolding headings
heading-requires c = few Pid

pub heading-requires-in-Pic : goal.heading-requires-in-Pic
unfolding headings
heading-requires-in-Pic c = few Pic

pub heading-requires-in-Plf : goal.heading-requires-in-Plf
unfolding headings
heading-requires-in-Plf c = few Plf

pub heading-requires-in-Pcf : goal.heading-requires-in-Pcf
unfolding headings
heading-requires-in-Pcf c = few Pcf

pub heading-requires-in-Caf : goal.heading-requires-in-Caf
unfolding headings
heading-requires-in-Caf c = few Caf

pub heading-requires-in-Cap : goal.heading-requires-in-Cap
unfolding headings
heading-requires-in-Cap c = few Cap

pub heading-requires-in-Txf : goal.heading-requires-in-Txf
unfolding headings
heading-requires-in-Txf c = few Txf

pub heading-requires-in-Txp : goal.heading-requires-in-Txp
unfolding headings
heading-requires-in-Txp c = few Txp

pub heading-requires-in-Ocf : goal.heading-requires-in-Ocf
unfolding headings
heading-requires-in-Ocf c = few Ocf

pub heading-requires-in-Ocp : goal.heading-requires-in-Ocp
unfolding headings
heading-requires-in-Ocp c = few Ocp

pub heading-requires-in-Mcf : goal.heading-requires-in-Mcf
unfolding headings
heading-requires-in-Mcf c = few Mcf

pub returns-in-Pid : goal.returns-in-Pid
unfolding column_name headings
returns-in-Pid c = rw c.in-Pid.is c.heading.ensures

pub returns-in-Pic : goal.returns-in-Pic
unfolding column_name headings
returns-in-Pic c = rw c.in-Pic.is c.heading-in-Pic.ensures

pub returns-in-Plf : goal.returns-in-Plf
unfolding column_name headings
returns-in-Plf c = rw c.in-Plf.is c.heading-in-Plf.ensures

pub returns-in-Pcf : goal.returns-in-Pcf
unfolding column_name headings
returns-in-Pcf c = rw c.in-Pcf.is c.heading-in-Pcf.ensures

pub returns-in-Caf : goal.returns-in-Caf
unfolding column_name headings
returns-in-Caf c = rw c.in-Caf.is c.heading-in-Caf.ensures

pub returns-in-Cap : goal.returns-in-Cap
unfolding column_name headings
returns-in-Cap c = rw c.in-Cap.is c.heading-in-Cap.ensures

pub returns-in-Txf : goal.returns-in-Txf
unfolding column_name headings
returns-in-Txf c = rw c.in-Txf.is c.heading-in-Txf.ensures

pub returns-in-Txp : goal.returns-in-Txp
unfolding column_name headings
returns-in-Txp c = rw c.in-Txp.is c.heading-in-Txp.ensures

pub returns-in-Ocf : goal.returns-in-Ocf
unfolding column_name headings
returns-in-Ocf c = rw c.in-Ocf.is c.heading-in-Ocf.ensures

pub returns-in-Ocp : goal.returns-in-Ocp
unfolding column_name headings
returns-in-Ocp c = rw c.in-Ocp.is c.heading-in-Ocp.ensures

pub returns-in-Mcf : goal.returns-in-Mcf
unfolding column_name headings
returns-in-Mcf c = rw c.in-Mcf.is c.heading-in-Mcf.ensures
