-- By the question.
use borrow.Author.Tests.{ne_eqb}
use Rattle.packet_questions.specs.PacketReplies.{reply_to}
use Rattle.packet_questions.proofs.answer_to.Goals as goal

pub returns-in-2 : goal.returns-in-2
unfolding reply_to
returns-in-2 c = rw c.in-2.is c.ask_identify.ensures

pub returns-in-3 : goal.returns-in-3
unfolding reply_to
returns-in-3 c = rw c.in-3.is c.ask_extract.ensures

pub returns-in-4 : goal.returns-in-4
unfolding reply_to
returns-in-4 c = rw c.in-4.is c.ask_engineer.ensures

pub returns-in-6 : goal.returns-in-6
unfolding reply_to
returns-in-6 c = rw c.in-6.is c.ask_number.ensures

pub returns-in-7 : goal.returns-in-7
unfolding reply_to
returns-in-7 c = rw c.in-7.is c.ask_width.ensures

pub returns-in-8 : goal.returns-in-8
unfolding reply_to
returns-in-8 c = rw c.in-8.is c.ask_unsigned.ensures

pub returns-in-9 : goal.returns-in-9
unfolding reply_to
returns-in-9 c = rw c.in-9.is c.ask_signed.ensures

pub returns-in-10 : goal.returns-in-10
unfolding reply_to
returns-in-10 c = rw c.in-10.is c.ask_string.ensures

pub returns-in_default : goal.returns-in_default
unfolding reply_to
returns-in_default c = rw (
  ne_eqb _ 2 c.in_default.in_default-own.rest.0.0.0.0.0.0.0.1,
  ne_eqb _ 3 c.in_default.in_default-own.rest.0.0.0.0.0.0.1,
  ne_eqb _ 4 c.in_default.in_default-own.rest.0.0.0.0.0.1,
  ne_eqb _ 6 c.in_default.in_default-own.rest.0.0.0.0.1,
  ne_eqb _ 7 c.in_default.in_default-own.rest.0.0.0.1,
  ne_eqb _ 8 c.in_default.in_default-own.rest.0.0.1,
  ne_eqb _ 9 c.in_default.in_default-own.rest.0.1,
  ne_eqb _ 10 c.in_default.in_default-own.rest.1,
) c.ask_line.ensures
