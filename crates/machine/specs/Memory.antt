-- How the engine's memory is divided: how many answers the tape has, registers, the command, the directory, and the tape. Assumes nothing: these are
-- definitions.
use Rattle.std.specs.Prelude.{ℕ, zero, suc, ◌+◌, ◌*◌, ◌%◌, min, List, [], ◌∷◌, ◌++◌, take, drop, slice_index, slice_set}
use Rattle.plain.specs.Term.{each}
use Rattle.plain.specs.Device.{Line, so_many_of}
use Rattle.plain.specs.Read.{number}
use Rattle.lines.specs.Words.{answers}

-- what a word can hold
abbrev pub small : ℕ → ℕ
small x = x % 18446744073709551616

-- just so many words: what is too long is cut, what is too short filled up with 0
unfoldable pub fixed : ℕ → List ℕ → List ℕ
fixed n xs = take n (each small xs ++ so_many_of n 0)

-- the k elements from a on; and these become ys
abbrev pub part : {X : Type 0} → ℕ → ℕ → List X → List X
part a k xs = take k (drop a xs)

abbrev pub put_at : {X : Type 0} → ℕ → ℕ → List X → List X → List X
put_at a k xs ys = take a xs ++ (ys ++ drop k (drop a xs))

-- THE PARTS, of 262,144 words in all
unfoldable pub registers_in : List ℕ → List ℕ
registers_in m = part 1 63 m

unfoldable pub command_in : List ℕ → List ℕ
command_in m = part 64 136 m

unfoldable pub directory_in : List ℕ → List ℕ
directory_in m = part 200 131072 m

unfoldable pub tape_in : List ℕ → List Line
tape_in m = answers (part 131272 (8 * min (slice_index m 0) 16359) m) 0

-- a stage begins: its registers, and no answer yet
unfoldable pub saved : List ℕ → List ℕ → List ℕ
saved m rs = (0 ∷ fixed 63 rs) ++ drop 64 m

-- one answer more, in words
unfoldable pub pushed : List ℕ → List ℕ → List ℕ
pushed m ws = put_at (131272 + 8 * min (slice_index m 0) 16358) 8 (slice_set m 0 (min (slice_index m 0) 16358 + 1)) ws

-- bytes as words, eight to each, the highest first
unfoldable pub packed : ℕ → List ℕ → List ℕ
packed zero bs = []
packed (suc n) bs = small (number (take 8 bs)) ∷ packed n (drop 8 bs)

-- the first 1,088 bytes of a command, filled up with 0, in words: no command is longer
abbrev pub command_of : List ℕ → List ℕ
command_of text = packed 136 (take 1088 (text ++ so_many_of 1088 0))

unfoldable pub heard : List ℕ → List ℕ → List ℕ
heard m text = put_at 64 136 m (command_of text)
