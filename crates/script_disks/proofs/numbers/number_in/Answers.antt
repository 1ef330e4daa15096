use Rattle.script_disks.proofs.Gathered.{number_is}
use Rattle.script_disks.proofs.numbers.number_in.Goals as goal

pub returns-in-Mess : goal.returns-in-Mess
returns-in-Mess c = number_is c.args.name c.in_ok-name.field-0 c.in-Mess.n c.in_ok-name.was c.in-Mess.is

pub returns-in-Mess-2 : goal.returns-in-Mess-2
returns-in-Mess-2 c = number_is c.args.name c.in_ok-name.field-0 c.in-Mess.n c.in_ok-name.was c.in-Mess.is

pub returns-in-Mess-3 : goal.returns-in-Mess-3
returns-in-Mess-3 c = number_is c.args.name c.in_ok-name.field-0 c.in-Mess.n c.in_ok-name.was c.in-Mess.is

pub returns-in-Mess-4 : goal.returns-in-Mess-4
returns-in-Mess-4 c = number_is c.args.name c.in_ok-name.field-0 c.in-Mess.n c.in_ok-name.was c.in-Mess.is

pub returns-in-Mess-5 : goal.returns-in-Mess-5
returns-in-Mess-5 c = number_is c.args.name c.in_ok-name.field-0 c.in-Mess.n c.in_ok-name.was c.in-Mess.is

pub returns-in-Mess-6 : goal.returns-in-Mess-6
returns-in-Mess-6 c = number_is c.args.name c.in_ok-name.field-0 c.in-Mess.n c.in_ok-name.was c.in-Mess.is

pub returns-in-Mess-7 : goal.returns-in-Mess-7
returns-in-Mess-7 c = number_is c.args.name c.in_ok-name.field-0 c.in-Mess.n c.in_ok-name.was c.in-Mess.is

pub returns-in-Mess-8 : goal.returns-in-Mess-8
returns-in-Mess-8 c = number_is c.args.name c.in_ok-name.field-0 c.in-Mess.n c.in_ok-name.was c.in-Mess.is

pub returns-in-Mess-9 : goal.returns-in-Mess-9
returns-in-Mess-9 c = number_is c.args.name c.in_ok-name.field-0 c.in-Mess.n c.in_ok-name.was c.in-Mess.is
