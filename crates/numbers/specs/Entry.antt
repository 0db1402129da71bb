-- What the entry that reckons with two numbers answers. Assumes nothing: these are definitions.
use Rattle.std.specs.Prelude.{ℕ, zero, suc, ◌&&◌, Some, None, Option, Result, ok_or, ◌==◌, nat_lt}
use Rattle.plain.specs.Term.{pick, Num, plus, minus, Value, empty, num, txt, truth, wrong, two, within, add, other, times, divided, is_zero}
use Rattle.numbers.specs.declared.reckon.Reply.{Reply}
use Rattle.numbers.specs.declared.reckon.Reply.TheVariants as reply
use Rattle.numbers.specs.declared.reckon.Refusal.{Refusal}
use Rattle.numbers.specs.declared.reckon.Refusal.TheVariants as refusal
use Rattle.numbers.specs.declared.reckon.Operation.{Operation}
use Rattle.numbers.specs.declared.reckon.Operation.TheVariants.{Sum, Difference, Product, Quotient}

-- a number as its millionths and whether it's below zero: 1 and n stand for n + 1 below
abbrev pub number_from : ℕ → ℕ → Num
number_from n below = pick (below == 0) (plus n) (minus n)

unfoldable pub replied : Value → Reply
replied empty = reply.Refused 1
replied (num (plus n)) = reply.Above n
replied (num (minus n)) = reply.Below n
replied (txt b) = reply.Refused 1
replied (truth b) = reply.Refused 1
replied (wrong k) = reply.Wrong k

-- 0 sum, 1 difference, 2 product, 3 quotient; refused with 1 if it is none of these, with 2 if a number is 2^62 or more
unfoldable pub reckoned : (k a below-a b below-b : ℕ) → Reply
reckoned k a x b y =
    pick (nat_lt k 4) (pick (nat_lt (pick (x == 0) a (suc a)) 4611686018427387904 && nat_lt (pick (y == 0) b (suc b)) 4611686018427387904)
    (replied (two k (num (number_from a x)) (num (number_from b y)))) (reply.Refused 2)) (reply.Refused 1)

-- the same by operations with names
abbrev pub operation_of : ℕ → Option Operation
operation_of zero = Some Sum
operation_of (suc zero) = Some Difference
operation_of (suc (suc zero)) = Some Product
operation_of (suc (suc (suc zero))) = Some Quotient
operation_of (suc (suc (suc (suc n)))) = None

-- the operation with this number, or why there is none
abbrev pub operation_numbered : ℕ → Result Operation Refusal
operation_numbered k = ok_or (operation_of k) refusal.Operation

-- why nothing is reckoned, as a number and as a reply
abbrev pub refusal_number : Refusal → ℕ
refusal_number refusal.Operation = 1
refusal_number refusal.Size = 2

abbrev pub refused : Refusal → Reply
refused r = reply.Refused (refusal_number r)

abbrev pub worked_out : Operation → Num → Num → Value
worked_out Sum a b = within (add a b)
worked_out Difference a b = within (add a (other b))
worked_out Product a b = within (times a b)
worked_out Quotient a b = pick (is_zero b) (wrong 2) (within (divided a b))
