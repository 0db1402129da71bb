-- The worked sheet: every entry of its table by computing. Assumes nothing.
use Rattle.std.proofs.Common.{ℕ, refl}
use Rattle.plain.specs.Term.{same, earlier, in_bytes, add, other, times, divided, less_num, within, digits, places, num_text, less_value, right_both, as_text, two}
use Rattle.plain.specs.Sheet.{at, put_cell, meant, boxes_plain, boxes, boxes_all, with_new, rounds, along, down, first_wrong, total, extreme, extreme_of, place_where, sum_where, nth_value, area_of, called, name_worth, worth, worth_at}
use Rattle.plain.specs.Commands.{num_spelled, value_spelled, count_terms, term_spelled, terms_spelled, mapped, mapped_all, ref_from, set_name, put_cells, turn}
use Rattle.plain.specs.Example.{after, replies, first, second, third, fourth, fifth, WorkedRight}

-- all that is needed to compute what is shown, opened once for the proofs that name this
computing : ℕ
unfolding same earlier in_bytes add other times divided less_num within digits places num_text less_value right_both as_text two at put_cell meant boxes_plain boxes boxes_all with_new rounds along down first_wrong total extreme extreme_of place_where sum_where nth_value area_of called name_worth worth worth_at num_spelled value_spelled count_terms term_spelled terms_spelled mapped mapped_all ref_from set_name put_cells turn after replies first second third fourth fifth
computing = 0

pub worked_right : WorkedRight
unfolding computing WorkedRight
worked_right = (refl, refl, refl, refl, refl, refl, refl)
