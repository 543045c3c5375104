use Rattle.wt_format_tests.proofs.tests.sessions.put.Given as goal

abbrev pub ghosts-put_counting : goal.ghosts-put_counting
ghosts-put_counting g a = record { name = a.blank.name; parts = a.blank.parts }
