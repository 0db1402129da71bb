-- One act on its own: what plain's run does with it, and what the code's machine does when it is told of it. Assumes nothing: these are definitions.
use Rattle.std.specs.Prelude.{ℕ, ◌+◌, List, [], ◌∷◌, ◌++◌, length, take, nat_lt, Some, None}
use Rattle.std.specs.declared.ops.ControlFlow.{ControlFlow}
use Rattle.std.specs.declared.ops.ControlFlow.TheVariants.{Continue, Break}
use Rattle.plain.specs.Term.{pick}
use Rattle.plain.specs.Device.{read_line, storing, settled}
use Rattle.plain.specs.Run.{World, Engine, Event, line, next, Act, read, store, settle, shows, done, refused, Ran, in_memory, on_device, storable, ran, refusal_end_lem, runs}
use Rattle.events.specs.declared.told.Told.{Told}
use Rattle.events.specs.declared.told.Told.TheVariants.{Read, Store, Settle, Shows, Done, No}
use Rattle.host.specs.declared.after.After.{After}
use Rattle.host.specs.declared.after.After.TheVariants.{Line, Stored, Next}
use Rattle.host.specs.declared.end.End.{End}
use Rattle.host.specs.Ends.{end_number}

-- what an act comes to: the command goes on, with the rows that were shown and the lines that were used; or it ends
pub data Out : Type 0 where
  going : World → Event → List (List ℕ) → ℕ → Out
  ended : World → List (List ℕ) → ℕ → Out

abbrev pub acted : World → List ℕ → Act → Out
acted w m (read k) = going (in_memory w m) (line (read_line w.device k)) [] 1
acted w m (store k p) = pick (storable w.device k p) (going (on_device m (storing w.device k p)) next [] 1) (ended (in_memory w m) [] 1001)
acted w m (settle k) = going (on_device m (settled w.device k)) next [] 0
acted w m (shows s) = going (in_memory w m) next (s ∷ []) 0
acted w m done = ended (in_memory w m) [] 0
acted w m (refused k) = ended (in_memory w m) [] (refusal_end_lem k)

unfoldable pub acted_by : Engine → World → Event → Out
acted_by e w ev = acted w (e.step w.memory ev).memory (e.step w.memory ev).act

-- at most n acts more, after rows that were shown and lines that were used
unfoldable pub carried : ℕ → Engine → List (List ℕ) → ℕ → Out → Ran
carried n e ss r (going w ev ss₁ u) = runs n e w ev (ss ++ ss₁) (r + u)
carried n e ss r (ended w ss₁ k) = ran w (ss ++ ss₁) r k

-- what the code does when it is told of an act, with the row that it was lent
abbrev pub carried_out : Told → World → List ℕ → Out
carried_out (Read k) w row = going w (line (read_line w.device k)) [] 1
carried_out (Store k) w row =
    pick (nat_lt k (length w.device.lines)) (going (on_device w.memory (storing w.device k (take 64 row))) next [] 1) (ended w [] 1001)
carried_out (Settle k) w row = going (on_device w.memory (settled w.device k)) next [] 0
carried_out (Shows n) w row = going w next (take n row ∷ []) 0
carried_out Done w row = ended w [] 0
carried_out (No k) w row = ended w [] (refusal_end_lem k)

-- what the engine is told after an act, and how many lines the act used
abbrev pub told_after : After → Event
told_after (Line (Some p)) = line p
told_after (Line None) = line []
told_after Stored = next
told_after Next = next

abbrev pub lines_of : After → ℕ
lines_of (Line p) = 1
lines_of Stored = 1
lines_of Next = 0

-- what the code says that an act came to
abbrev pub out_of : ControlFlow End After → World → List (List ℕ) → Out
out_of (Continue a) w ss = going w (told_after a) ss (lines_of a)
out_of (Break e) w ss = ended w ss (end_number e)
