use Rattle.wt_driver.proofs.driver.Driver.event.Given as given

abbrev pub ghosts-take : given.ghosts-take
ghosts-take a = record { name = a.blank.name; parts = a.blank.parts }
