mod Gathering
mod LineLemmas
mod Pieces
