-- How many bytes have been put together, and that none is taken back. Assumes nothing: these are definitions.
use Rattle.std.specs.Prelude.{ℕ, ◌≤◌, vec_len}
use Rattle.typed.specs.declared.code.Code.{Code}

abbrev pub size : Code → ℕ
size c = vec_len c.bytes

-- that a reader takes nothing back; it stays a clause, since a type can't tie what is there after a call to what was there before
abbrev pub Grows : Code → Code → Type 0
Grows old new = size old ≤ size new
