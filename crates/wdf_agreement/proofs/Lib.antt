mod DriveLemmas
