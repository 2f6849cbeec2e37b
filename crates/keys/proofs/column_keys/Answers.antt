-- Each table's keys.
use Rattle.keys.proofs.column_keys.Goals as goal

pub returns-in-Pid : goal.returns-in-Pid
returns-in-Pid c = rw c.in-Pid.is c.pid_keys.ensures

pub returns-in-Pic : goal.returns-in-Pic
returns-in-Pic c = rw c.in-Pic.is c.pic_keys.ensures

pub returns-in-Plf : goal.returns-in-Plf
returns-in-Plf c = rw c.in-Plf.is c.plf_keys.ensures

pub returns-in-Pcf : goal.returns-in-Pcf
returns-in-Pcf c = rw c.in-Pcf.is c.pcf_keys.ensures

pub returns-in-Caf : goal.returns-in-Caf
returns-in-Caf c = rw c.in-Caf.is c.caf_keys.ensures

pub returns-in-Cap : goal.returns-in-Cap
returns-in-Cap c = rw c.in-Cap.is c.cap_keys.ensures

pub returns-in-Txf : goal.returns-in-Txf
returns-in-Txf c = rw c.in-Txf.is c.txf_keys.ensures

pub returns-in-Txp : goal.returns-in-Txp
returns-in-Txp c = rw c.in-Txp.is c.txp_keys.ensures

pub returns-in-Ocf : goal.returns-in-Ocf
returns-in-Ocf c = rw c.in-Ocf.is c.ocf_keys.ensures

pub returns-in-Ocp : goal.returns-in-Ocp
returns-in-Ocp c = rw c.in-Ocp.is c.ocp_keys.ensures

pub returns-in-Mcf : goal.returns-in-Mcf
returns-in-Mcf c = rw c.in-Mcf.is c.mcf_keys.ensures
