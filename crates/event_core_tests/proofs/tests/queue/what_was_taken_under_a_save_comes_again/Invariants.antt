use Rattle.event_core_tests.proofs.tests.queue.what_was_taken_under_a_save_comes_again.Given as goal

-- the ledger that the test opens
abbrev pub ghosts-comes_again : goal.ghosts-comes_again
ghosts-comes_again g a = record { name = a.ledger.name; parts = a.ledger.parts }
