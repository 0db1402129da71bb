-- The journal's recovery, guarded: it passes over entries and counts that no batch can leave. All else is the journal's. Assumes nothing: these are
-- definitions.
use Rattle.std.specs.Prelude.{ℕ, zero, suc, ◌+◌, ◌*◌, Bool, ◌&&◌, nat_le, nat_lt}
use Rattle.plain.specs.Term.{pick}
use Rattle.plain.specs.Device.{Line}
use Rattle.plain.specs.Run.{read}
use Rattle.programs.specs.Prog.{Prog, ret, ask, bind}
use Rattle.journal.specs.Journal.{word}
use Rattle.journal.specs.Programs.{write, clear}

-- a journal has room for `most` entries, and the durable lines end before `last`: an entry whose target no batch can have is passed over
abbrev pub is_durable_lem : ℕ → ℕ → ℕ → Bool
is_durable_lem most last k = nat_le (1 + 2 * most) k && nat_lt k last

abbrev pub put_back : ℕ → ℕ → ℕ → Line → Prog (Unit {0})
put_back most last k p = pick (is_durable_lem most last k) (write k p) (ret tt)

abbrev pub reapply : ℕ → ℕ → ℕ → Prog (Unit {0})
reapply most last i = ask (read (1 + 2 * i)) (λ k. ask (read (2 + 2 * i)) (λ p. put_back most last (word k) p))

unfoldable pub reapply_all : ℕ → ℕ → ℕ → ℕ → Prog (Unit {0})
reapply_all most last i zero = ret tt
reapply_all most last i (suc m) = bind (reapply most last i) (λ a. reapply_all most last (suc i) m)

-- how many entries a superblock says are committed: a number that no batch can leave counts for none
abbrev pub committed : ℕ → Line → ℕ
committed most l = pick (nat_le (word l) most) (word l) 0

unfoldable pub recover_so : ℕ → ℕ → ℕ → Prog (Unit {0})
recover_so most last zero = ret tt
recover_so most last (suc m) = bind (reapply_all most last 0 (suc m)) (λ a. clear)

abbrev pub recover : ℕ → ℕ → Prog (Unit {0})
recover most last = ask (read 0) (λ l. recover_so most last (committed most l))
