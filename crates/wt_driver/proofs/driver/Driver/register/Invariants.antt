use Rattle.wt_driver.proofs.driver.Driver.register.Given as goal

abbrev pub ghosts-begin_session : goal.ghosts-begin_session
ghosts-begin_session a = record { name = a.blank.name; parts = a.blank.parts }
