-- The worked scripts and files, command by command.
use Rattle.std.proofs.Common.{ℕ, zero, suc, List, [], ◌∷◌, ◌++◌, false, true, None, Err, codes, refl, inl, inr, lit≤}
use Rattle.syn_words.specs.Commands.{options}
use Rattle.syn_words.specs.declared.Command.{Command}
use Rattle.syn_words.specs.declared.Command.TheVariants.{Make, Quit, Source, Stats}
use Rattle.syn_words.specs.declared.recipes.Recipe.TheVariants.{Balance, Rewrite}
use Rattle.syn_words.specs.declared.ScriptFault.TheVariants.{MissingWord, UnknownCommand}
use Rattle.syn_command_files.specs.declared.LoadFault.TheVariants.{File, GetFailed, TooDeep}
use Rattle.syn_command_files.specs.Sources.{FileFails, FileSays, Refused, refused, Sources}
use Rattle.syn_command_files.specs.Worked.{files, line, WorkedLoads}

abbrev b : Command
b = Make Balance

abbrev rwz : Command
rwz = Make (Rewrite (options true false None))

abbrev source : List ℕ → Command
source name = Source name

one_says : FileSays files (codes "one") (rwz ∷ [])
one_says = (codes "rw -z", record { file = refl; short = lit≤ tt }, refl)

two_says : FileSays files (codes "two") (b ∷ source (codes "one") ∷ Stats ∷ [])
two_says = (line (codes "b # first") ++ codes "source one; ps", record { file = refl; short = lit≤ tt }, refl)

own_says : FileSays files (codes "own") (source (codes "own") ∷ [])
own_says = (codes "source own", record { file = refl; short = lit≤ tt }, refl)

end_says : FileSays files (codes "end") (b ∷ Quit ∷ Stats ∷ [])
end_says = (codes "b; quit; ps", record { file = refl; short = lit≤ tt }, refl)

abbrev bad : Refused
bad = refused (File 2 (codes "dc2") (UnknownCommand 2)) (codes "bad")

bad_fails : FileFails files (codes "bad") (File 2 (codes "dc2") (UnknownCommand 2))
bad_fails = (line (codes "b") ++ codes "dc2", record { file = refl; short = lit≤ tt }, record { first = refl; place = refl; shown = refl })

abbrev early : Refused
early = refused (File 2 [] (MissingWord 17)) (codes "early")

early_fails : FileFails files (codes "early") (File 2 [] (MissingWord 17))
early_fails = (line (codes "source bad") ++ codes "source", record { file = refl; short = lit≤ tt }, record { first = refl; place = refl; shown = refl })

abbrev own : Refused
own = refused TooDeep (codes "own")

own_too_deep : (depth : ℕ) → Sources depth files (codes "own") [] (Err own)
own_too_deep zero = refl
own_too_deep (suc depth) = inl (source (codes "own") ∷ [], own_says, inr (own, refl, own_too_deep depth))

abbrev none : Refused
none = refused GetFailed (codes "none")

pub worked : WorkedLoads
worked = record {
  alone = (b ∷ Stats ∷ [], record { short = lit≤ tt; says = refl }, (b ∷ Stats ∷ [], inl (b ∷ [], refl, inl (b ∷ Stats ∷ [], refl, refl)), refl));
  in_place = (
    Stats ∷ source (codes "two") ∷ b ∷ [],
    record { short = lit≤ tt; says = refl },
    (
      Stats ∷ b ∷ rwz ∷ Stats ∷ b ∷ [],
      inl (
        Stats ∷ [],
        refl,
        inl (
          Stats ∷ b ∷ rwz ∷ Stats ∷ [],
          inl (
            b ∷ source (codes "one") ∷ Stats ∷ [],
            two_says,
            inl (
              Stats ∷ b ∷ [],
              refl,
              inl (
                Stats ∷ b ∷ rwz ∷ [],
                inl (rwz ∷ [], one_says, inl (Stats ∷ b ∷ rwz ∷ [], refl, refl)),
                inl (Stats ∷ b ∷ rwz ∷ Stats ∷ [], refl, refl),
              ),
            ),
          ),
          inl (Stats ∷ b ∷ rwz ∷ Stats ∷ b ∷ [], refl, refl),
        ),
      ),
      refl,
    ),
  );
  of_a_file = (
    b ∷ source (codes "one") ∷ Stats ∷ [],
    two_says,
    (
      b ∷ rwz ∷ Stats ∷ [],
      inl (
        b ∷ [],
        refl,
        inl (
          b ∷ rwz ∷ [],
          inl (rwz ∷ [], one_says, inl (b ∷ rwz ∷ [], refl, refl)),
          inl (b ∷ rwz ∷ Stats ∷ [], refl, refl),
        ),
      ),
      refl,
    ),
  );
  ended = (
    Stats ∷ Quit ∷ b ∷ [],
    record { short = lit≤ tt; says = refl },
    (Stats ∷ Quit ∷ b ∷ [], inl (Stats ∷ [], refl, inl (Stats ∷ Quit ∷ [], refl, inl (Stats ∷ Quit ∷ b ∷ [], refl, refl))), refl),
  );
  ended_in_a_file = (
    Stats ∷ source (codes "end") ∷ b ∷ [],
    record { short = lit≤ tt; says = refl },
    (
      Stats ∷ b ∷ Quit ∷ Stats ∷ b ∷ [],
      inl (
        Stats ∷ [],
        refl,
        inl (
          Stats ∷ b ∷ Quit ∷ Stats ∷ [],
          inl (b ∷ Quit ∷ Stats ∷ [], end_says, inl (Stats ∷ b ∷ [], refl, inl (Stats ∷ b ∷ Quit ∷ [], refl, inl (Stats ∷ b ∷ Quit ∷ Stats ∷ [], refl, refl)))),
          inl (Stats ∷ b ∷ Quit ∷ Stats ∷ b ∷ [], refl, refl),
        ),
      ),
      refl,
    ),
  );
  too_deep = inr (inr (source (codes "own") ∷ [], record { short = lit≤ tt; says = refl }, inr (own, refl, own_too_deep 16)));
  fault_in_a_file =
      inr (inr (
        b ∷ source (codes "bad") ∷ source (codes "none") ∷ [],
        record { short = lit≤ tt; says = refl },
        inl (b ∷ [], refl, inr (bad, refl, inr (bad, (bad_fails, refl), refl))),
      ));
  fault_behind_the_end =
      inr (inr (
        Quit ∷ source (codes "bad") ∷ [],
        record { short = lit≤ tt; says = refl },
        inl (Quit ∷ [], refl, inr (bad, refl, inr (bad, (bad_fails, refl), refl))),
      ));
  own_fault_first = inr (inr (source (codes "early") ∷ [], record { short = lit≤ tt; says = refl }, inr (early, refl, inr (early, (early_fails, refl), refl))));
  script_first = inr (inl (refl, (lit≤ tt, refl, λ is. cc)));
  missing = inr (inr (source (codes "none") ∷ [], record { short = lit≤ tt; says = refl }, inr (none, refl, inr (none, (tt, refl), refl))));
}
