use Rattle.engine_tests.proofs.tests.books.threads.+fn-in_threads-join+arg3+in_threads.Given as goal

-- so many numbers are left to deal
abbrev pub decreases-in_threads : goal.decreases-in_threads
decreases-in_threads g l = l.left

-- and one less behind the first
abbrev pub decreases-join+arg3 : goal.decreases-join+arg3
decreases-join+arg3 g l = l.next
