-- The number by which the plain model tells an end. Assumes nothing: these are definitions, and a statement, of which a theorem function has a proof.
use Rattle.std.specs.Prelude.{◌≡◌, ℕ}
use Rattle.host.specs.declared.end.End.{End}
use Rattle.host.specs.declared.end.End.TheVariants.{Done, Refused, Fault, StillRunning}

abbrev pub end_number : End → ℕ
end_number Done = 0
end_number (Refused r) = r.number
end_number StillRunning = 1000
end_number Fault = 1001

-- NO TWO ENDS HAVE THE SAME NUMBER: so an end says all that its number says
abbrev pub EndsToldApart : Type 0
EndsToldApart = (a b : End) → end_number a ≡ end_number b → a ≡ b
