mod Cuts
mod Steps
mod Trips
