mod Filling
mod Telling
mod Laying
