use Rattle.event_core_tests.proofs.tests.queue.events_are_taken_in_order.Given as goal

-- the ledger that the test opens
abbrev pub ghosts-takes_in_order : goal.ghosts-takes_in_order
ghosts-takes_in_order g a = record { name = a.ledger.name; parts = a.ledger.parts }
