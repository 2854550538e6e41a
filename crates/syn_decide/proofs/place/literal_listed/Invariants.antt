use Rattle.std.proofs.Common.{◌≡◌, drop}
use Rattle.syn_decide.specs.Hints.{literal_listed}
use Rattle.syn_decide.proofs.place.literal_listed.Given as goal

abbrev pub invariant-loop-h : goal.invariant-loop-h
invariant-loop-h l = literal_listed (drop l.h-index l.hits) l.x l.y ≡ literal_listed l.hits l.x l.y
