use Rattle.wt_session_tests.proofs.tests.drivers.take.Given as goal

abbrev pub ghosts-take_counting : goal.ghosts-take_counting
ghosts-take_counting g a = record { name = a.blank.name; parts = a.blank.parts }
