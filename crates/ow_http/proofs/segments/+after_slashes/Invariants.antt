use Rattle.ow_http.proofs.segments.+after_slashes.Given as goal

abbrev pub decreases-after_slashes : goal.decreases-after_slashes
decreases-after_slashes l = l.n
