use Rattle.wt_format_tests.proofs.tests.readers.fed.Given as goal

abbrev pub ghosts-feed_counting : goal.ghosts-feed_counting
ghosts-feed_counting g a = record { name = a.blank.name; parts = a.blank.parts }
