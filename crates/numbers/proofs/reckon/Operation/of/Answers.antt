use Rattle.numbers.proofs.reckon.Operation.of.Goals as goal

pub returns-in-Quotient : goal.returns-in-Quotient
returns-in-Quotient c = rw c.in-Quotient.is c.divided_by.ensures
